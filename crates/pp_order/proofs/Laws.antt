-- Listed instances differ in their members and in their printed names.
use Rattle.std.proofs.Common.{◌≡◌, ◌<◌, ℕ, suc, List, [], ◌∷◌, map, Option, Some, None, option_map, refl, sym, ap}
use Rattle.std.proofs.Common.{◌∙◌, subst, arith, inl, inr, ⊎_elim, Less, Equal}
use Rattle.std.specs.Prelude.{slice_get}
use Rattle.std.specs.Cmp.Lexicographic.{slice_cmp}
use Rattle.std.specs.Ordering.{nat_cmp}
use Rattle.std.proofs.lemmas.Bool.{cases_lt}
use Rattle.std.proofs.lemmas.Cmp.{nat_list_cmp_total, tied_itself}
use Rattle.std.proofs.lemmas.Option.{slice_get-get_or, slice_get-map}
use Rattle.pp_instance_names.proofs.Names.{names_tell_members}
use Rattle.pp_instance_names.specs.Laws.{AreOneKind, both_functions, both_roots}
use Rattle.pp_instances.specs.Closure.{Distinct}
use Rattle.pp_instances.specs.Laws.{HaveNames}
use Rattle.pp_instances.specs.Names.{printed}
use Rattle.pp_instances.specs.Order.{IsListing, MemberOf, Precedes, member_of}
use Rattle.pp_instances.specs.declared.member.Decl.TheVariants.{Function, Root}
use Rattle.pp_instances.specs.declared.member.Instance.{Instance}
use Rattle.pp_instances.specs.declared.member.Member.{Member}
use Rattle.pp_instances.proofs.Decls.{one_function, one_root}
use Rattle.pp_order.proofs.Listing.{AreProper}
use Rattle.pp_order.specs.Laws.{ListedMembersDiffer, ListedNamesDiffer}
use Rattle.pp_typed.specs.WellSorted.{IsWellSorted}
use Rattle.pp_typed.specs.declared.typed.Typed.{Typed}

-- a list in which no member stands at two places
distinct_from : (ms : List Member)
    → ((i j : ℕ) (m : Member) → i < j → slice_get ms i ≡ Some m → slice_get ms j ≡ Some m → ⊥) → Distinct ms
distinct_from [] apart = tt
distinct_from (m ∷ ms) apart = (
  λ has. apart 0 (suc has.0) m (omega arith) refl (slice_get-get_or ms has.0 m has.1 ∙ ap Some has.2),
  distinct_from ms (λ i j n lt there here. apart (suc i) (suc j) n (omega arith) there here),
)

-- the element whose image is there
pub mapped : {X Y : Type 0} (f : X → Y) (o : Option X) (y : Y) → option_map f o ≡ Some y
    → (x : X) × (o ≡ Some x) × (f x ≡ y)
mapped f None y is = cc
mapped f (Some x) y is = (x, refl, cc)

-- three ways for two places
places : {P : Type 0} (i j : ℕ) → (i < j → P) → (j < i → P) → (i ≡ j → P) → P
places i j less more same = ⊎_elim less (λ le. ⊎_elim more (λ ge. same (omega arith)) (cases_lt j i)) (cases_lt i j)

module _ (typed : Typed) (kind : MemberOf) (tells : (n m : ℕ) → kind n ≡ kind m → n ≡ m)
    (one_kind : (n m : ℕ) → AreOneKind (kind n) (kind m)) (ms : List Member) (listed : List Instance)
    (listing : IsListing typed kind ms listed) where
  abbrev stands : Instance → Member
  stands = member_of typed kind

  -- what precedes differs in its number or its name
  precedes_other : (a b : Instance) → Precedes typed kind a b → a.number ≡ b.number → a.name ≡ b.name → ⊥
  precedes_other a b (inl less) same_number same_name = absurd (omega arith)
  precedes_other a b (inr before) same_number same_name =
      let less : slice_cmp nat_cmp a.name a.name ≡ Less =
      subst (λ n. slice_cmp nat_cmp a.name n ≡ Less) (sym same_name) before.1 in
      let tied : slice_cmp nat_cmp a.name a.name ≡ Equal = tied_itself nat_list_cmp_total a.name in
      let never : Less ≡ Equal = sym less ∙ tied in cc

  apart : (i j : ℕ) (a b : Instance) → i < j → slice_get listed i ≡ Some a → slice_get listed j ≡ Some b
      → stands a ≡ stands b → ⊥
  apart i j a b lt there here same =
      precedes_other a b (listing.in_order i j a b lt there here)
      (tells a.number b.number (ap (λ (m : Member). m.of) same))
      (listing.names i a there ∙ ap (printed typed) same ∙ sym (listing.names j b here))

  members_differ : Distinct (map stands listed)
  members_differ =
      distinct_from (map stands listed)
      (λ i j m lt there here.
      let a = mapped stands (slice_get listed i) m (sym (slice_get-map stands listed i) ∙ there) in
      let b = mapped stands (slice_get listed j) m (sym (slice_get-map stands listed j) ∙ here) in
      apart i j a.0 b.0 lt a.1 b.1 (a.2 ∙ sym b.2))

  module _ (sorted : IsWellSorted typed) (proper : AreProper typed ms) where
    one_member : (i j : ℕ) (a b : Instance) → slice_get listed i ≡ Some a → slice_get listed j ≡ Some b
        → a.name ≡ b.name → stands a ≡ stands b
    one_member i j a b there here same =
        names_tell_members typed (stands a) (stands b) sorted (proper (stands a) (listing.only i a there))
        (proper (stands b) (listing.only j b here)) (one_kind a.number b.number)
        (sym (listing.names i a there) ∙ same ∙ listing.names j b here)

    names_differ : HaveNames listed
    names_differ i j a b there here same =
        let one = one_member i j a b there here same in
        places i j (λ lt. absurd (apart i j a b lt there here one))
        (λ lt. absurd (apart j i b a lt here there (sym one))) (λ is. is)

pub listed_members_differ : ListedMembersDiffer
listed_members_differ typed ms functions roots listed = (
  members_differ typed Function one_function both_functions ms functions listed.functions,
  members_differ typed Root one_root both_roots ms roots listed.roots,
)

pub listed_names_differ : ListedNamesDiffer
listed_names_differ typed ms functions roots sorted proper listed = (
  names_differ typed Function one_function both_functions ms functions listed.functions sorted proper,
  names_differ typed Root one_root both_roots ms roots listed.roots sorted proper,
)
