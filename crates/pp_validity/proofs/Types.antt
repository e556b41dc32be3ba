-- The types of a sort at arguments are members, where those of the sort and of the arguments are.
use Rattle.std.proofs.Common.{◌≡◌, ⊎_elim, ℕ, List, [], ◌∷◌, map, refl, sym, ap, ◌∙◌, subst}
use Rattle.std.specs.Prelude.{Option, Some, None, slice_get, unwrap_or, Contains}
use Rattle.std.proofs.lemmas.List.Elements.{Contains-push, Contains-push_cases, Contains-append_cases}
use Rattle.std.proofs.lemmas.List.Elements.{Contains-append_left, Contains-append_right, Contains-get_or}
use Rattle.std.proofs.lemmas.Option.{slice_get_within, get_or_from_slice_get}
use Rattle.pp_generic.proofs.Putting.{put_bool, put_int, put_param, put_root}
use Rattle.pp_instances.proofs.Kept.{nothing_in}
use Rattle.pp_instances.proofs.Mentioned.{types_int, types_bool, types_param, types_root}
use Rattle.pp_instances.specs.Uses.{root_at, types_in, types_of}
use Rattle.pp_instances.specs.declared.member.Member.{Member}
use Rattle.pp_typed.specs.Put.{put}
use Rattle.pp_typed.specs.declared.sort.GenericSort.{GenericSort}
use Rattle.pp_typed.specs.declared.sort.GenericSort.TheFolds.{ind-GenericSort, map-GenericSort}
use Rattle.pp_typed.specs.declared.sort.GenericSort.TheOpen as layer
use Rattle.pp_typed.specs.declared.sort.GenericSort.TheVariants as sort
use Rattle.pp_typed.specs.declared.sort.GenericSort.TheViews.{roll-GenericSort}
use Rattle.pp_validity.proofs.Known.{HasTypes}
use Rattle.pp_validity.proofs.Within.{Within}

module _ (ms : List Member) (args : List GenericSort) (own : (s : GenericSort) → Contains args s → HasTypes ms s) where
  abbrev P : GenericSort → Type 0
  P s = Within ms args (types_in s) → HasTypes ms (put args s)

  abbrev N : Type 0
  N = (s : GenericSort) × P s

  none : (s t : GenericSort) → put args s ≡ t → types_in t ≡ [] → HasTypes ms (put args s)
  none s t p q m c = absurd (nothing_in m (subst (λ (l : List Member). Contains l m) (ap types_in p ∙ q) c))

  at_param : (i : ℕ) (o : Option GenericSort) → slice_get args i ≡ o → HasTypes ms (unwrap_or o (sort.Param i))
  at_param i None h m c = absurd (nothing_in m (subst (λ (l : List Member). Contains l m) (types_param i) c))
  at_param i (Some s) h m c =
      own s (subst (λ (z : GenericSort). Contains args z) (get_or_from_slice_get args i s s h)
      (Contains-get_or args i s (slice_get_within args i s h))) m c

  each : (ns : List N) → Within ms args (types_of (map (λ (z : N). z.0) ns)) → (m : Member)
      → Contains (types_of (map (put args) (map (λ (z : N). z.0) ns))) m → Contains ms m
  each [] h m c = absurd (nothing_in m c)
  each (n ∷ ns) h m c =
      ⊎_elim (λ (here : Contains (types_in (put args n.0)) m). n.1
      (λ k d. h k (Contains-append_left (types_in n.0) (types_of (map (λ (z : N). z.0) ns)) k d)) m here)
      (λ (later : Contains (types_of (map (put args) (map (λ (z : N). z.0) ns))) m). each ns
      (λ k d. h k (Contains-append_right (types_in n.0) (types_of (map (λ (z : N). z.0) ns)) k d)) m later)
      (Contains-append_cases (types_in (put args n.0)) (types_of (map (put args) (map (λ (z : N). z.0) ns))) m c)

  at_level : (y : layer.GenericSort-F N) → P (roll-GenericSort (map-GenericSort N GenericSort (λ (z : N). z.0) y))
  at_level layer.Int h = subst (λ (z : GenericSort). HasTypes ms (put args z)) (sym sort.rolls-Int)
      (none sort.Int sort.Int (put_int args) types_int)
  at_level layer.Bool h = subst (λ (z : GenericSort). HasTypes ms (put args z)) (sym sort.rolls-Bool)
      (none sort.Bool sort.Bool (put_bool args) types_bool)
  at_level (layer.Param i) h =
      subst (λ (z : GenericSort). HasTypes ms (put args z)) (sym (sort.rolls-Param i))
      (subst (HasTypes ms) (sym (put_param args i)) (at_param i (slice_get args i) refl))
  at_level (layer.Root r ns) h =
      let ss = map (λ (z : N). z.0) ns in
      let mentioned : Within ms args (root_at r ss ∷ types_of ss) =
      subst (Within ms args) (ap types_in (sort.rolls-Root r ss) ∙ types_root r ss) h in
      subst (λ (z : GenericSort). HasTypes ms (put args z)) (sym (sort.rolls-Root r ss))
      (λ m c. by r ns mentioned m
      (subst (λ (l : List Member). Contains l m)
      (ap types_in (put_root args r ss) ∙ types_root r (map (put args) ss)) c))
    where
      by : (r : ℕ) (ns : List N)
          → Within ms args (root_at r (map (λ (z : N). z.0) ns) ∷ types_of (map (λ (z : N). z.0) ns)) → (m : Member)
          → Contains (root_at r (map (put args) (map (λ (z : N). z.0) ns)) ∷ types_of
          (map (put args) (map (λ (z : N). z.0) ns))) m → Contains ms m
      by r ns h m c =
          let ss = map (λ (z : N). z.0) ns in
          let this = root_at r (map (put args) ss) in
          ⊎_elim (λ (first : Contains (this ∷ []) m). ⊎_elim (λ (no : Contains [] m). absurd (nothing_in m no))
          (λ (e : this ≡ m). subst (λ (z : Member). Contains ms z) e
          (h (root_at r ss) (Contains-append_left (root_at r ss ∷ []) (types_of ss) (root_at r ss)
          (Contains-push [] (root_at r ss)))))
          (Contains-push_cases [] this m first))
          (λ (later : Contains (types_of (map (put args) ss)) m). each ns
          (λ k d. h k (Contains-append_right (root_at r ss ∷ []) (types_of ss) k d)) m later)
          (Contains-append_cases (this ∷ []) (types_of (map (put args) ss)) m c)

  pub types_put : (s : GenericSort) → P s
  types_put = ind-GenericSort P (λ x y is. subst (λ z. P (roll-GenericSort z)) is (at_level y))
