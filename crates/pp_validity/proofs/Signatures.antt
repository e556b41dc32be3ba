-- The functions of a program have the signatures of their instances, and a precondition and a measure where these have.
use Rattle.std.proofs.Common.{◌≡◌, ⊎_elim, ℕ, true, List, [], ◌∷◌, ◌++◌, map, length, refl, sym, ap, ◌∙◌, subst, arith}
use Rattle.std.proofs.Common.{length-append}
use Rattle.std.specs.Prelude.{Some, is_some, slice_get}
use Rattle.std.proofs.lemmas.Option.{none-some, same_Some}
use Rattle.pp_instances.specs.declared.member.Instance.{Instance}
use Rattle.pp_prog.specs.Sorts.{param_sorts as sorts_of_params, sort_of_param as sort_of_prog_param}
use Rattle.pp_prog.specs.Valid.{is_written as is_written_prog}
use Rattle.pp_prog.specs.declared.expr.Expr.{Expr}
use Rattle.pp_prog.specs.declared.expr.Function.{Function}
use Rattle.pp_translation.specs.Defs.{TranslatesDef, TranslatesDefs, no_defs, more_defs, none_more}
use Rattle.pp_translation.specs.Functions.{as_one, param_at}
use Rattle.pp_translation.specs.Numbered.{TranslateAll, is_written, no_exprs, one_more}
use Rattle.pp_translation.specs.Numbers.{sort_at}
use Rattle.pp_translation.specs.Setting.{Setting}
use Rattle.pp_translation.specs.declared.frame.CheckAt.{CheckAt}
use Rattle.pp_translation.specs.declared.frame.Frame.{Frame}
use Rattle.pp_translation.proofs.Conditions.{some_as_one}
use Rattle.pp_typed.specs.Sorted.{param_sorts, sort_of_param}
use Rattle.pp_typed.specs.declared.expr.TypedExpr.{TypedExpr}
use Rattle.pp_typed.specs.declared.sort.GenericSort.{GenericSort}
use Rattle.pp_typed.specs.declared.typed.Typed.{Typed}
use Rattle.pp_typed.specs.declared.typed.TypedDef.{TypedDef}
use Rattle.pp_validity.proofs.Patterns.{map_map}
use Rattle.pp_validity.proofs.Placed.{before}
use Rattle.pp_validity.proofs.Whole.{at_last, last_or_before}

written_push : {A : Type 0} (xs : List A) (x : A) → is_written (xs ++ x ∷ []) ≡ true
written_push [] x = refl
written_push (y ∷ xs) x = refl

written_prog_push : (xs : List Expr) (x : Expr) → is_written_prog (xs ++ x ∷ []) ≡ true
written_prog_push [] x = refl
written_prog_push (y ∷ xs) x = refl

one_is_some : (xs : List Expr) → is_some (as_one xs) ≡ is_written_prog xs
one_is_some [] = refl
one_is_some (x ∷ xs) = some_as_one x xs

module _ (typed : Typed) (set : Setting) (texts : List (List ℕ)) where
  written_alike : {own : Frame} {es : List TypedExpr} {xs : List Expr} {old new : List CheckAt}
      → TranslateAll typed set own es xs old new → is_written_prog xs ≡ is_written es
  written_alike no_exprs = refl
  written_alike (one_more {es = es} {e = e} {xs = xs} {x = x} earlier t) = written_prog_push xs x
      ∙ sym (written_push es e)

  -- a function of the program has the signature of its instance
  pub record IsSignature (fs : List Function) (n : ℕ) (i : Instance) (d : TypedDef) : Type 0 where
    pub g : Function
    pub found : slice_get fs n ≡ Some g
    pub params : sorts_of_params g.params ≡ map (sort_at set.roots i.args) (param_sorts d.params)
    pub result : g.result ≡ sort_at set.roots i.args d.result
    pub pre : is_some g.pre ≡ is_written d.pre
    pub measure : is_written_prog g.measure ≡ is_written d.measure

  signature_of : {own : Frame} {i : Instance} {d : TypedDef} {f : Function} {old new : List CheckAt}
      (fs : List Function) (n : ℕ) → own.args ≡ i.args
      → TranslatesDef typed set own texts i d f old new → slice_get fs n ≡ Some f → IsSignature fs n i d
  signature_of {own} {i} {d} {f} fs n args t found = record {
    g = f;
    found = found;
    params = ap sorts_of_params t.params ∙ sym (map_map sort_of_prog_param (param_at set.roots own.args) d.params)
        ∙ map_map (sort_at set.roots own.args) sort_of_param d.params
        ∙ ap (λ (l : List GenericSort). map (sort_at set.roots l) (param_sorts d.params)) args;
    result = t.result ∙ ap (λ (l : List GenericSort). sort_at set.roots l d.result) args;
    pre = ap is_some t.pre.one ∙ one_is_some t.pre.parts ∙ written_alike t.pre.each;
    measure = written_alike t.measure;
  }

  later : {fs : List Function} {n : ℕ} {i : Instance} {d : TypedDef} (f : Function) → IsSignature fs n i d
      → IsSignature (fs ++ f ∷ []) n i d
  later {fs} {n} f s = record {
    g = s.g;
    found = before fs (f ∷ []) n s.g s.found;
    params = s.params;
    result = s.result;
    pre = s.pre;
    measure = s.measure;
  }

  abbrev pub Declared : List Instance → Type 0
  Declared is = (n : ℕ) (i : Instance) → slice_get is n ≡ Some i → (d : TypedDef)
      × (slice_get typed.defs i.number ≡ Some d)

  declared_before : (is : List Instance) (i : Instance) → Declared (is ++ i ∷ []) → Declared is
  declared_before is i h = λ n j at. h n j (before is (i ∷ []) n j at)

  pub even : {is : List Instance} {fs : List Function} {start cs : List CheckAt}
      → TranslatesDefs typed set texts is fs start cs → Declared is → length fs ≡ length is
  even no_defs h = refl
  even (none_more {is = is} i missing earlier) h = let d = h (length is) i (at_last is i) in
      absurd (none-some _ (sym missing ∙ d.1))
  even (more_defs {is = is} {i = i} {fs = fs} {f = f} own d number args measured at_def earlier t) h =
      let e = even earlier (declared_before is i h) in
      let p = length-append fs (f ∷ []) in
      let q = length-append is (i ∷ []) in
      omega arith

  pub signatures : {is : List Instance} {fs : List Function} {start cs : List CheckAt}
      → TranslatesDefs typed set texts is fs start cs → Declared is
      → (n : ℕ) (i : Instance) (d : TypedDef) → slice_get is n ≡ Some i → slice_get typed.defs i.number ≡ Some d
      → IsSignature fs n i d
  signatures no_defs h n i d at at_def = absurd (none-some _ at)
  signatures (none_more {is = is} j missing earlier) h n i d at at_def = let e = h (length is) j (at_last is j) in
      absurd (none-some _ (sym missing ∙ e.1))
  signatures (more_defs {is = is} {i = j} {fs = fs} {f = f} own e number args measured j_def earlier t) h n i d at
      at_def =
      let even_here = even earlier (declared_before is j h) in
      ⊎_elim (λ (q : slice_get is n ≡ Some i). later f (signatures earlier (declared_before is j h) n i d q at_def))
      (λ (q : (n ≡ length is) × (j ≡ i)).
      let same : e ≡ d = same_Some _ _
      (sym j_def ∙ ap (λ (z : Instance). slice_get typed.defs z.number) q.1 ∙ at_def) in
      subst (λ (z : Instance). IsSignature (fs ++ f ∷ []) n z d) q.1
      (subst (λ (z : TypedDef). IsSignature (fs ++ f ∷ []) n j z) same
      (signature_of (fs ++ f ∷ []) n args t (ap (slice_get (fs ++ f ∷ [])) (q.0 ∙ sym even_here) ∙ at_last fs f))))
      (last_or_before is j n i at)
