-- What names and applications stand for has sorts in range.
use Rattle.std.proofs.Common.{◌≡◌, ◌∙◌, ℕ, zero, suc, ◌+◌, ◌<◌, ◌≤◌, Bool, true, false, nat_eq, nat_lt, if◌then◌else◌}
use Rattle.std.proofs.Common.{List, [], ◌∷◌, ◌++◌, Option, Some, None, length, take, map, option_map, slice_get}
use Rattle.std.proofs.Common.{unwrap_or, refl, sym, ap, subst, arith}
use Rattle.std.proofs.lemmas.Bool.{eqb-true}
use Rattle.std.proofs.lemmas.List.{map-append, take_all, take_more}
use Rattle.std.proofs.lemmas.Option.{same_Some, slice_get-get_or}
use Rattle.pp_generic.proofs.Putting.{put_param}
use Rattle.pp_names.specs.Find.{find_ctor, find_function, owners_of}
use Rattle.pp_names.specs.Places.{Word, places_from}
use Rattle.pp_rules.specs.declared.callee.Callee.{Callee}
use Rattle.pp_rules.specs.Shapes.{applied_by, bare_function, case_object, ctor_at, ctor_callee, ctor_of_root}
use Rattle.pp_rules.specs.Shapes.{function_at, function_callee, named_by, only_ctor, or_else, own_params, the_only}
use Rattle.pp_typed.specs.InRange.{IsInRange, param_in_range, root_in_range, AreInRange, none_in_range, more_in_range}
use Rattle.pp_typed.specs.Put.{put}
use Rattle.pp_typed.specs.Sorted.{ctors_of, param_sorts}
use Rattle.pp_typed.specs.declared.declared.Declared.{Declared}
use Rattle.pp_typed.specs.declared.declared.Signature.{Signature}
use Rattle.pp_typed.specs.declared.sort.GenericSort.{GenericSort}
use Rattle.pp_typed.specs.declared.sort.GenericSort.TheVariants as sort
use Rattle.pp_typed.specs.declared.typed.TypedCtor.{TypedCtor}
use Rattle.pp_typed.specs.declared.typed.TypedDef.{TypedDef}
use Rattle.pp_typed.specs.declared.typed.TypedRoot.{TypedRoot}
use Rattle.pp_types_laws.proofs.Patterns.{HasFields}
use Rattle.pp_types_laws.proofs.Ranges.{append_in_range}

one_longer : (ss : List GenericSort) (s : GenericSort) → length (ss ++ s ∷ []) ≡ suc (length ss)
one_longer [] s = refl
one_longer (t ∷ ts) s = ap suc (one_longer ts s)

-- a root at its own type parameters
pub own_length : (n : ℕ) → length (own_params n) ≡ n
own_length zero = refl
own_length (suc n) = one_longer (own_params n) (sort.Param n) ∙ ap suc (own_length n)

own_in_range : (roots : List TypedRoot) (n k : ℕ) → n ≤ k → AreInRange roots k (own_params n)
own_in_range roots zero k h = none_in_range
own_in_range roots (suc n) k h =
    append_in_range roots k (own_in_range roots n k (omega (arith, h)))
    (more_in_range (param_in_range n refl (omega (arith, h))) none_in_range)

own_put : (sorts : List GenericSort) (k : ℕ) → k ≤ length sorts → map (put sorts) (own_params k) ≡ take k sorts
own_put sorts zero h = refl
own_put sorts (suc k) h =
    let within : k < length sorts = omega (arith, h) in
    let n : k + 1 ≡ suc k = omega arith in
    map-append (put sorts) (own_params k) (sort.Param k ∷ [])
    ∙ ap (λ l. l ++ put sorts (sort.Param k) ∷ []) (own_put sorts k (omega (arith, h)))
    ∙ ap (λ s. take k sorts ++ s ∷ []) (put_param sorts k
    ∙ ap (λ o. unwrap_or o (sort.Param k)) (slice_get-get_or sorts k (sort.Param k) within))
    ∙ sym (take_more sorts k (sort.Param k) within) ∙ ap (λ i. take i sorts) n

pub put_own : (sorts : List GenericSort) (n : ℕ) → length sorts ≡ n → map (put sorts) (own_params n) ≡ sorts
put_own sorts n e = own_put sorts n (omega (arith, e)) ∙ take_all n sorts (omega (arith, e))

module _ (d : Declared) (defs : List TypedDef) where
  -- a function as its callers see it
  pub record IsFunctionAs (i : ℕ) (s : Signature) : Type 0 where
    pub def : TypedDef
    pub there : slice_get defs i ≡ Some def
    pub type_params : def.type_params ≡ s.type_params
    pub params : param_sorts def.params ≡ s.params
    pub result : def.result ≡ s.result
    pub params_in_range : AreInRange d.roots s.type_params s.params
    pub result_in_range : IsInRange d.roots s.type_params s.result

module _ (d : Declared) where
  -- a function or a constructor that is declared
  pub data IsCallee : Callee → Type 0 where
    is_function : (i : ℕ) (s : Signature) → slice_get d.functions i ≡ Some s → IsCallee (function_callee i s)
    is_constructor : (i : ℕ) (c : TypedCtor) (r : TypedRoot) → slice_get d.ctors i ≡ Some c
        → slice_get d.roots c.root ≡ Some r → IsCallee (ctor_callee i c r)

  function_is : (o : Option ℕ) (c : Callee) → function_at d o ≡ Some c → IsCallee c
  function_is None c e = cc
  function_is (Some i) c e = by (slice_get d.functions i) refl e
    where
      by : (o : Option Signature) → slice_get d.functions i ≡ o → option_map (function_callee i) o ≡ Some c → IsCallee c
      by None g h = cc
      by (Some s) g h = subst IsCallee (same_Some (function_callee i s) c h) (is_function i s g)

  root_is : (i : ℕ) (k : TypedCtor) (c : Callee) → slice_get d.ctors i ≡ Some k
      → (o : Option TypedRoot) → slice_get d.roots k.root ≡ o → option_map (ctor_callee i k) o ≡ Some c → IsCallee c
  root_is i k c there None g h = cc
  root_is i k c there (Some r) g h = subst IsCallee (same_Some (ctor_callee i k r) c h) (is_constructor i k r there g)

  ctor_is : (o : Option ℕ) (c : Callee) → ctor_at d o ≡ Some c → IsCallee c
  ctor_is None c e = cc
  ctor_is (Some i) c e = by (slice_get d.ctors i) refl e
    where
      by : (o : Option TypedCtor) → slice_get d.ctors i ≡ o → ctor_of_root d i o ≡ Some c → IsCallee c
      by None g h = cc
      by (Some k) g h = root_is i k c g (slice_get d.roots k.root) refl h

  first_is : (a b : Option Callee) (c : Callee) → ((e : Callee) → a ≡ Some e → IsCallee e)
      → ((e : Callee) → b ≡ Some e → IsCallee e) → or_else d a b ≡ Some c → IsCallee c
  first_is None b c h k e = k c e
  first_is (Some a) b c h k e = subst IsCallee (same_Some a c e) (h a refl)

  pub applied_is : (w : Word) (c : Callee) → applied_by d w ≡ Some c → IsCallee c
  applied_is w c e =
      first_is (function_at d (find_function d w)) (ctor_at d (find_ctor d w)) c (function_is (find_function d w))
      (ctor_is (find_ctor d w)) e

  pub named_is : (w : Word) (c : Callee) → named_by d w ≡ Some c → IsCallee c
  named_is w c e =
      first_is (function_at d (bare_function d (find_function d w))) (ctor_at d (case_object d (find_ctor d w))) c
      (function_is (bare_function d (find_function d w))) (ctor_is (case_object d (find_ctor d w))) e

  module _ (defs : List TypedDef)
      (functions : (i : ℕ) (s : Signature) → slice_get d.functions i ≡ Some s → IsFunctionAs d defs i s)
      (ctors : (i : ℕ) (c : TypedCtor) → slice_get d.ctors i ≡ Some c → HasFields d.roots c) where
    pub callee_params : {c : Callee} → IsCallee c → AreInRange d.roots c.type_params c.params
    callee_params (is_function i s there) = (functions i s there).params_in_range
    callee_params (is_constructor i c r there declared) =
        let own = ctors i c there in
        let same = same_Some own.owner r (sym own.there ∙ declared) in
        subst (λ (x : TypedRoot). AreInRange d.roots x.type_params c.fields) same own.fields

    pub callee_result : {c : Callee} → IsCallee c → IsInRange d.roots c.type_params c.result
    callee_result (is_function i s there) = (functions i s there).result_in_range
    callee_result (is_constructor i c r there declared) =
        root_in_range c.root r (own_params r.type_params) refl declared (own_length r.type_params)
        (own_in_range d.roots r.type_params r.type_params (omega arith))

  -- the one constructor of a root
  pub record IsOnlyCtor (r c : ℕ) : Type 0 where
    pub ctor : TypedCtor
    pub there : slice_get d.ctors c ≡ Some ctor
    pub root : ctor.root ≡ r
    pub only : ctors_of d.ctors r ≡ ctor ∷ []

  record IsOneOf (cs : List TypedCtor) (r at c : ℕ) : Type 0 where
    place : ℕ
    counted : c ≡ at + place
    ctor : TypedCtor
    there : slice_get cs place ≡ Some ctor
    root : ctor.root ≡ r
    only : ctors_of cs r ≡ ctor ∷ []

  none_step : (c : TypedCtor) (cs : List TypedCtor) (r at : ℕ) (b : Bool) → nat_eq c.root r ≡ b
      → places_from at r (owners_of (c ∷ cs)) ≡ [] → (places_from (at + 1) r (owners_of cs) ≡ [] → ctors_of cs r ≡ [])
      → ctors_of (c ∷ cs) r ≡ []
  none_step c cs r at true t e go =
      let rest = places_from (at + 1) r (owners_of cs) in
      let f : at ∷ rest ≡ [] = sym (ap (λ x. if x then at ∷ rest else rest) t) ∙ e in cc
  none_step c cs r at false t e go =
      let rest = places_from (at + 1) r (owners_of cs) in
      ap (λ x. if x then c ∷ ctors_of cs r else ctors_of cs r) t
      ∙ go (sym (ap (λ x. if x then at ∷ rest else rest) t) ∙ e)

  none_of : (cs : List TypedCtor) (r at : ℕ) → places_from at r (owners_of cs) ≡ [] → ctors_of cs r ≡ []
  none_of [] r at e = refl
  none_of (c ∷ cs) r at e = none_step c cs r at (nat_eq c.root r) refl e (none_of cs r (at + 1))

  one_step : (k : TypedCtor) (cs : List TypedCtor) (r at c : ℕ) (b : Bool) → nat_eq k.root r ≡ b
      → places_from at r (owners_of (k ∷ cs)) ≡ c ∷ []
      → (places_from (at + 1) r (owners_of cs) ≡ c ∷ [] → IsOneOf cs r (at + 1) c) → IsOneOf (k ∷ cs) r at c
  one_step k cs r at c true t e go =
      let rest = places_from (at + 1) r (owners_of cs) in
      let f : at ∷ rest ≡ c ∷ [] = sym (ap (λ x. if x then at ∷ rest else rest) t) ∙ e in
      let here : at ≡ c = cc in
      let none : rest ≡ [] = cc in
      record {
        place = 0;
        counted = omega (arith, here);
        ctor = k;
        there = refl;
        root = eqb-true k.root r t;
        only = ap (λ x. if x then k ∷ ctors_of cs r else ctors_of cs r) t
            ∙ ap (λ l. k ∷ l) (none_of cs r (at + 1) none);
      }
  one_step k cs r at c false t e go =
      let rest = places_from (at + 1) r (owners_of cs) in
      let q = go (sym (ap (λ x. if x then at ∷ rest else rest) t) ∙ e) in
      record {
        place = suc q.place;
        counted = omega (arith, q.counted);
        ctor = q.ctor;
        there = q.there;
        root = q.root;
        only = ap (λ x. if x then k ∷ ctors_of cs r else ctors_of cs r) t ∙ q.only;
      }

  one_of : (cs : List TypedCtor) (r at c : ℕ) → places_from at r (owners_of cs) ≡ c ∷ [] → IsOneOf cs r at c
  one_of [] r at c e = cc
  one_of (k ∷ cs) r at c e = one_step k cs r at c (nat_eq k.root r) refl e (one_of cs r (at + 1) c)

  the_only_is : (ns : List ℕ) (c : ℕ) → the_only ns ≡ Some c → ns ≡ c ∷ []
  the_only_is [] c e = cc
  the_only_is (n ∷ []) c e = ap (λ x. x ∷ []) (same_Some n c e)
  the_only_is (n ∷ k ∷ ns) c e = cc

  chosen_some : (b : Bool) (o : Option ℕ) (c : ℕ) → (if b then o else None) ≡ Some c → o ≡ Some c
  chosen_some true o c e = e
  chosen_some false o c e = cc

  pub only_of_root : (r c : ℕ) → only_ctor d r ≡ Some c → IsOnlyCtor r c
  only_of_root r c e =
      let places = places_from 0 r (owners_of d.ctors) in
      let one = one_of d.ctors r 0 c
      (the_only_is places c (chosen_some (nat_lt r (length d.roots)) (the_only places) c e)) in
      let same : c ≡ one.place = omega (arith, one.counted) in
      record {
        ctor = one.ctor;
        there = ap (slice_get d.ctors) same ∙ one.there;
        root = one.root;
        only = one.only;
      }
