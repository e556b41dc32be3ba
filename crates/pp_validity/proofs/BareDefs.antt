-- Translated functions with the numbers of their checks left out are the functions at the arguments of their instances.
use Rattle.std.proofs.Common.{◌≡◌, ℕ, List, [], ◌∷◌, ◌++◌, map, refl, sym, ap, ◌∙◌, append_assoc}
use Rattle.std.specs.Prelude.{Option, Some, None, slice_get}
use Rattle.std.specs.Option.{option_map}
use Rattle.std.proofs.lemmas.List.{append-nil, map_push}
use Rattle.pp_instances.specs.declared.member.Instance.{Instance}
use Rattle.pp_tree.specs.declared.operator.BinaryOp.TheVariants.{AndAlso}
use Rattle.pp_prog.specs.declared.expr.Expr.{Expr}
use Rattle.pp_prog.specs.declared.expr.Function.{Function}
use Rattle.pp_prog.specs.declared.expr.Param.{Param}
use Rattle.pp_prog.specs.declared.id.CheckId.{CheckId}
use Rattle.pp_prog.specs.declared.place.Place.{Place}
use Rattle.pp_prog.specs.declared.sort.Sort.{Sort}
use Rattle.pp_translation.specs.Bare.{bare, bare_function, bare_post}
use Rattle.pp_translation.specs.Defs.{TranslatesDef, TranslatesDefs, TranslatesPost, no_defs, more_defs, none_more}
use Rattle.pp_translation.specs.Defs.{no_post, one_post}
use Rattle.pp_translation.specs.Exprs.{expr_at, unnumbered}
use Rattle.pp_translation.specs.Functions.{as_one, function_if, function_of, functions_of, param_at, place_at, post_at}
use Rattle.pp_translation.specs.Numbers.{sort_at}
use Rattle.pp_translation.specs.Setting.{Setting}
use Rattle.pp_translation.specs.declared.frame.CheckAt.{CheckAt}
use Rattle.pp_translation.specs.declared.frame.Frame.{Frame}
use Rattle.pp_translation.proofs.Conditions.{as_one_of_map}
use Rattle.pp_typed.specs.declared.expr.TypedExpr.{TypedExpr}
use Rattle.pp_typed.specs.declared.sort.GenericSort.{GenericSort}
use Rattle.pp_typed.specs.declared.typed.Typed.{Typed}
use Rattle.pp_typed.specs.declared.typed.TypedDef.{TypedDef}
use Rattle.pp_typed.specs.declared.typed.TypedPost.{TypedPost}
use Rattle.pp_validity.proofs.Bared.{bare_all, bare_binary, bare_expr}

module _ (typed : Typed) (set : Setting) (own : Frame) (d : TypedDef) where
  abbrev G : GenericSort → Sort
  G s = sort_at set.roots own.args s

  abbrev Bare : TypedExpr → Expr
  Bare = expr_at typed set.roots set.functions own.args

  bare_one : (xs : List Expr) → option_map bare (as_one xs) ≡ as_one (map bare xs)
  bare_one = as_one_of_map bare (λ (a b : Expr). bare_binary AndAlso a b None)

  bare_of_post : (texts : List (List ℕ)) {q : Option TypedPost} {p : Option (CheckId × Expr)} {source : ℕ}
      {old new : List CheckAt} → TranslatesPost typed set own source q p old new
      → bare_post p ≡ post_at typed texts set.roots set.functions own.args q
  bare_of_post texts no_post = refl
  bare_of_post texts (one_post t) = ap (λ z. Some (unnumbered, z)) (bare_expr typed set own t)

  abbrev made : List ℕ → Place → List Param → Sort → Option Expr → List Expr → Expr → Option (CheckId × Expr) → Function
  made name place params result pre measure body post =
      record {
        name = name;
        place = place;
        params = params;
        result = result;
        pre = pre;
        measure = measure;
        body =
            body;
        post = post;
      }

  abbrev function_at_args : List GenericSort → List (List ℕ) → Instance → Function
  function_at_args args texts i =
      made i.name (place_at texts (d.source, d.at)) (map (param_at set.roots args) d.params)
      (sort_at set.roots args d.result)
      (as_one (map (expr_at typed set.roots set.functions args) d.pre))
      (map (expr_at typed set.roots set.functions args) d.measure)
      (expr_at typed set.roots set.functions args d.body) (post_at typed texts set.roots set.functions args d.post)

  -- the function of the program that it is at the arguments of the instance
  pub def_bare : {texts : List (List ℕ)} {i : Instance} {f : Function} {old new : List CheckAt}
      → TranslatesDef typed set own texts i d f old new → own.args ≡ i.args
      → bare_function f ≡ function_of typed texts set.roots set.functions i d
  def_bare {texts} {i} {f} t is =
      let pre : option_map bare f.pre ≡ as_one (map Bare d.pre) =
      ap (option_map bare) t.pre.one ∙ bare_one t.pre.parts ∙ ap as_one (bare_all typed set own t.pre.each) in
      let measure = bare_all typed set own t.measure in
      let body = bare_expr typed set own t.body in
      let post = bare_of_post texts t.post in
      let at_own : bare_function f ≡ function_at_args own.args texts i =
      ap (λ z. made z f.place f.params f.result (option_map bare f.pre) (map bare f.measure) (bare f.body)
      (bare_post f.post)) t.name
      ∙ ap (λ z. made i.name z f.params f.result (option_map bare f.pre) (map bare f.measure) (bare f.body)
      (bare_post f.post)) t.place
      ∙ ap (λ z. made i.name (place_at texts (d.source, d.at)) z f.result (option_map bare f.pre) (map bare f.measure)
      (bare f.body) (bare_post f.post)) t.params
      ∙ ap (λ z. made i.name (place_at texts (d.source, d.at)) (map (param_at set.roots own.args) d.params) z
      (option_map bare f.pre) (map bare f.measure) (bare f.body) (bare_post f.post)) t.result
      ∙ ap (λ z. made i.name (place_at texts (d.source, d.at)) (map (param_at set.roots own.args) d.params) (G d.result)
      z (map bare f.measure) (bare f.body) (bare_post f.post)) pre
      ∙ ap (λ z. made i.name (place_at texts (d.source, d.at)) (map (param_at set.roots own.args) d.params) (G d.result)
      (as_one (map Bare d.pre)) z (bare f.body) (bare_post f.post)) measure
      ∙ ap (λ z. made i.name (place_at texts (d.source, d.at)) (map (param_at set.roots own.args) d.params) (G d.result)
      (as_one (map Bare d.pre)) (map Bare d.measure) z (bare_post f.post)) body
      ∙ ap (λ z. made i.name (place_at texts (d.source, d.at)) (map (param_at set.roots own.args) d.params) (G d.result)
      (as_one (map Bare d.pre)) (map Bare d.measure) (Bare d.body) z) post in
      at_own ∙ ap (λ (l : List GenericSort). function_at_args l texts i) is

module _ (typed : Typed) (set : Setting) (texts : List (List ℕ)) where
  abbrev Of : List Instance → List Function
  Of = functions_of typed texts set.roots set.functions

  abbrev at : Instance → List Function
  at i = function_if typed texts set.roots set.functions i (slice_get typed.defs i.number)

  of_push : (is : List Instance) (i : Instance) → Of (is ++ i ∷ []) ≡ Of is ++ at i
  of_push [] i = append-nil (at i)
  of_push (j ∷ is) i = ap (λ l. at j ++ l) (of_push is i) ∙ sym (append_assoc (at j) (Of is) (at i))

  pub functions_push : (is : List Instance) (i : Instance) (d : TypedDef) → slice_get typed.defs i.number ≡ Some d
      → Of (is ++ i ∷ []) ≡ Of is ++ function_of typed texts set.roots set.functions i d ∷ []
  functions_push is i d h =
      of_push is i ∙ ap (λ o. Of is ++ function_if typed texts set.roots set.functions i o) h

  -- all functions are
  pub all_bare : {is : List Instance} {fs : List Function} {start cs : List CheckAt}
      → TranslatesDefs typed set texts is fs start cs → map bare_function fs ≡ Of is
  all_bare no_defs = refl
  all_bare (more_defs {is = is} {i = i} {fs = fs} {f = f} own d number args measured at_def earlier t) =
      map_push bare_function fs f ∙ ap (λ l. l ++ bare_function f ∷ []) (all_bare earlier)
      ∙ ap (λ z. Of is ++ z ∷ []) (def_bare typed set own d t args)
      ∙ sym (functions_push is i d at_def)
  all_bare (none_more {is = is} i missing earlier) =
      all_bare earlier ∙ sym (append-nil (Of is))
      ∙ ap (λ o. Of is ++ function_if typed texts set.roots set.functions i o) (sym missing) ∙ sym (of_push is i)
