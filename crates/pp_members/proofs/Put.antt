-- Sorts with others in place of their parameters: they are in range, and what they are made of.
use Rattle.std.proofs.Common.{◌≡◌, ⊎_elim, ℕ, zero, suc, ◌<◌, List, [], ◌∷◌, map, length, get_or, sym, ap, ◌∙◌, subst}
use Rattle.std.proofs.Common.{arith}
use Rattle.std.specs.Prelude.{Some, None, slice_get, unwrap_or, Contains}
use Rattle.std.proofs.lemmas.List.{length-map}
use Rattle.std.proofs.lemmas.List.Elements.{Contains-append_cases, Contains-append_left, Contains-append_right}
use Rattle.std.proofs.lemmas.List.Elements.{Contains-get_or}
use Rattle.std.proofs.lemmas.Option.{same_Some, slice_get-get_or}
use Rattle.pp_generic.proofs.Putting.{put_bool, put_int, put_param, put_root}
use Rattle.pp_instances.proofs.Kept.{nothing_in}
use Rattle.pp_instances.proofs.Mentioned.{types_int, types_bool, types_root}
use Rattle.pp_instances.specs.Uses.{at_args, root_at, types_in, types_of}
use Rattle.pp_instances.specs.declared.member.Member.{Member}
use Rattle.pp_members.proofs.Lists.{first_in, later_in, first_or_later}
use Rattle.pp_typed.specs.InRange.{IsInRange, AreInRange, int_in_range, bool_in_range, param_in_range, root_in_range}
use Rattle.pp_typed.specs.InRange.{none_in_range, more_in_range}
use Rattle.pp_typed.specs.Put.{put}
use Rattle.pp_typed.specs.declared.sort.GenericSort.{GenericSort}
use Rattle.pp_typed.specs.declared.sort.GenericSort.TheVariants as sort
use Rattle.pp_typed.specs.declared.typed.TypedRoot.{TypedRoot}

-- a sort of a list is in range, where all are
pub at_in_range : (roots : List TypedRoot) (n : ℕ) {ss : List GenericSort} → AreInRange roots n ss
    → (i : ℕ) (s : GenericSort) → slice_get ss i ≡ Some s → IsInRange roots n s
at_in_range roots n none_in_range i s h = let no : None ≡ Some s = h in cc
at_in_range roots n (more_in_range here more) zero s h = subst (IsInRange roots n) (same_Some _ _ h) here
at_in_range roots n (more_in_range here more) (suc i) s h = at_in_range roots n more i s h

module _ (args : List GenericSort) where
  -- the sort at the place of a parameter
  put_within : (i : ℕ) → i < length args → put args (sort.Param i) ≡ get_or args i (sort.Param i)
  put_within i lt = put_param args i ∙ ap (λ o. unwrap_or o (sort.Param i)) (slice_get-get_or args i (sort.Param i) lt)

  module _ (roots : List TypedRoot) (n m : ℕ) (ok : AreInRange roots m args) (all : length args ≡ n) where
    mutual
      pub put_in_range : {s : GenericSort} → IsInRange roots n s → IsInRange roots m (put args s)
      put_in_range (int_in_range is) = int_in_range (ap (put args) is ∙ put_int args)
      put_in_range (bool_in_range is) = bool_in_range (ap (put args) is ∙ put_bool args)
      put_in_range (param_in_range i is lt) =
          let within : i < length args = omega (arith, all, lt) in
          subst (IsInRange roots m) (sym (ap (put args) is ∙ put_within i within))
          (at_in_range roots m ok i (get_or args i (sort.Param i)) (slice_get-get_or args i (sort.Param i) within))
      put_in_range (root_in_range r root parts is declared whole each) =
          root_in_range r root (map (put args) parts) (ap (put args) is ∙ put_root args r parts) declared
          (length-map parts (put args) ∙ whole) (puts_in_range each)

      pub puts_in_range : {ss : List GenericSort} → AreInRange roots n ss → AreInRange roots m (map (put args) ss)
      puts_in_range none_in_range = none_in_range
      puts_in_range (more_in_range here more) = more_in_range (put_in_range here) (puts_in_range more)

  -- what holds of the types of the arguments, and of those that a sort mentions at the arguments, holds of the types of
  -- the sort at the arguments
  module _ (roots : List TypedRoot) (n : ℕ) (all : length args ≡ n) (U : Member → Type 0)
      (own : (s : GenericSort) → Contains args s → (m : Member) → Contains (types_in s) m → U m) where
    abbrev Mentioned : List Member → Type 0
    Mentioned l = (m : Member) → Contains l m → U (at_args args m)

    abbrev Have : List Member → Type 0
    Have l = (m : Member) → Contains l m → U m

    nothing : (s : GenericSort) → types_in s ≡ [] → Have (types_in s)
    nothing s none m c = absurd (nothing_in m (subst (λ (l : List Member). Contains l m) none c))

    at_root : (r : ℕ) (parts : List GenericSort) → Have (types_of (map (put args) parts))
        → U (root_at r (map (put args) parts))
        → Have (root_at r (map (put args) parts) ∷ types_of (map (put args) parts))
    at_root r parts inside this m c =
        ⊎_elim (λ (e : root_at r (map (put args) parts) ≡ m). subst U e this) (inside m)
        (first_or_later (root_at r (map (put args) parts)) (types_of (map (put args) parts)) m c)

    mutual
      pub types_put : {s : GenericSort} → IsInRange roots n s → Mentioned (types_in s) → Have (types_in (put args s))
      types_put (int_in_range is) h =
          nothing _ (ap (λ z. types_in (put args z)) is ∙ ap types_in (put_int args) ∙ types_int)
      types_put (bool_in_range is) h =
          nothing _ (ap (λ z. types_in (put args z)) is ∙ ap types_in (put_bool args) ∙ types_bool)
      types_put (param_in_range i is lt) h =
          let within : i < length args = omega (arith, all, lt) in
          subst (λ (z : GenericSort). Have (types_in z)) (sym (ap (put args) is ∙ put_within i within))
          (own (get_or args i (sort.Param i)) (Contains-get_or args i (sort.Param i) within))
      types_put (root_in_range r root parts is declared whole each) h =
          subst (λ (z : GenericSort). Have (types_in z)) (sym (ap (put args) is ∙ put_root args r parts))
          (subst Have (sym (types_root r (map (put args) parts)))
          (at_root r parts (types_puts each (λ m c. mentioned m (later_in (root_at r parts) (types_of parts) m c)))
          (mentioned (root_at r parts) (first_in (root_at r parts) (types_of parts)))))
        where
          mentioned : Mentioned (root_at r parts ∷ types_of parts)
          mentioned = subst Mentioned (ap types_in is ∙ types_root r parts) h

      pub types_puts : {ss : List GenericSort} → AreInRange roots n ss → Mentioned (types_of ss)
          → Have (types_of (map (put args) ss))
      types_puts none_in_range h m c = absurd (nothing_in m c)
      types_puts (more_in_range {s = s} {ss = ss} here more) h m c =
          ⊎_elim (types_put here (λ k d. h k (Contains-append_left (types_in s) (types_of ss) k d)) m)
          (types_puts more (λ k d. h k (Contains-append_right (types_in s) (types_of ss) k d)) m)
          (Contains-append_cases (types_in (put args s)) (types_of (map (put args) ss)) m c)
