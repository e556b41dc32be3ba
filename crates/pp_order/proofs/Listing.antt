-- The instances of distinct proper members, sorted, are a listing.
use Rattle.std.proofs.Common.{◌≡◌, ◌<◌, ◌≤◌, ℕ, true, false, List, length, get_or, take, Contains, Option, Some}
use Rattle.std.proofs.Common.{IsPermutation, IsSorted, sym, ap, ◌∙◌, subst, arith, true≢false}
use Rattle.std.specs.Prelude.{slice_get}
use Rattle.std.specs.List.{IsDistinct}
use Rattle.std.proofs.lemmas.List.Sorted.{Contains-permutation, IsPermutation-sym, length_permutation, sorted_far}
use Rattle.std.proofs.lemmas.List.{take_all}
use Rattle.std.proofs.lemmas.Map.Keys.{IsDistinct-IsPermutation, apart_from_distinct}
use Rattle.std.proofs.lemmas.Option.{get_or_from_slice_get, slice_get_within}
use Rattle.pp_instance_names.proofs.Names.{names_tell_members}
use Rattle.pp_instances.specs.Closure.{Distinct}
use Rattle.pp_instances.specs.Decides.{same_laws, same_self}
use Rattle.pp_instances.specs.Order.{AreListed, IsListing, MemberOf, Precedes}
use Rattle.pp_instances.specs.Same.{same}
use Rattle.pp_instances.specs.declared.member.Decl.{Decl}
use Rattle.pp_instances.specs.declared.member.Instance.{Instance}
use Rattle.pp_instances.specs.declared.member.Member.{Member}
use Rattle.pp_members.specs.Proper.{IsProper}
use Rattle.pp_order.proofs.Made.{IsKind, IsMade, alike, functions_are, instances_differ, made, member_again, no_more}
use Rattle.pp_order.proofs.Made.{present, roots_are, stands}
use Rattle.pp_order.proofs.Sorted.{instance_order, is_before, precedes}
use Rattle.pp_order.specs.Instances.{as_function, as_root, instance_at, instance_cmp, instances_of}
use Rattle.pp_typed.specs.WellSorted.{IsWellSorted}
use Rattle.pp_typed.specs.declared.typed.Typed.{Typed}

-- what stands at a place is in the list
pub at_place : {X : Type 0} (xs : List X) (i : ℕ) (x : X) → slice_get xs i ≡ Some x → Contains xs x
at_place xs i x there = (i, slice_get_within xs i x there, get_or_from_slice_get xs i x x there)

-- the members are proper
abbrev pub AreProper : Typed → List Member → Type 0
AreProper typed ms = (m : Member) → Contains ms m → IsProper typed m

module _ (typed : Typed) {kind : Decl → Option ℕ} {make : MemberOf} (is : IsKind kind make) (ms : List Member) where
  -- instances of members of one kind with one printed name are those of one member
  name_tells : (a b : Instance) → IsWellSorted typed → AreProper typed ms → IsMade typed is ms a → IsMade typed is ms b
      → a.name ≡ b.name → stands typed is a ≡ stands typed is b
  name_tells a b sorted proper one two same_name =
      names_tell_members typed (stands typed is a) (stands typed is b) sorted
      (proper (stands typed is a) one.among) (proper (stands typed is b) two.among) (is.one_kind a.number b.number)
      (sym one.named ∙ same_name ∙ two.named)

  module _ (listed : List Instance) (sorted : IsWellSorted typed) (proper : AreProper typed ms) (once : Distinct ms)
      (moved : IsPermutation (instances_of typed kind ms) listed) (up : IsSorted instance_cmp listed) where
    all_made : (i : ℕ) (a : Instance) → slice_get listed i ≡ Some a → IsMade typed is ms a
    all_made i a there =
        made typed is ms a
        (Contains-permutation listed (instances_of typed kind ms) a
        (IsPermutation-sym (instances_of typed kind ms) listed moved) (at_place listed i a there))

    differ : IsDistinct (alike typed is) listed
    differ =
        IsDistinct-IsPermutation (alike typed is) (λ a b. same_laws.symm (stands typed is a) (stands typed is b))
        (instances_of typed kind ms) listed moved (instances_differ typed is ms once)

    apart : (i j : ℕ) (a b : Instance) → i < j → slice_get listed i ≡ Some a → slice_get listed j ≡ Some b
        → stands typed is a ≡ stands typed is b → ⊥
    apart i j a b lt there here same_member =
        let first = get_or_from_slice_get listed i a a there in
        let second = get_or_from_slice_get listed j b a here in
        let far = apart_from_distinct (alike typed is) listed i j a differ lt (slice_get_within listed j b here) in
        let told = subst (λ z. alike typed is z (get_or listed j a) ≡ false) first far in
        let tell = subst (λ z. alike typed is a z ≡ false) second told in
        let one = subst (λ z. same (stands typed is a) z ≡ true) same_member (same_self (stands typed is a)) in
        true≢false (sym one ∙ tell)

    in_order : (i j : ℕ) (a b : Instance) → i < j → slice_get listed i ≡ Some a → slice_get listed j ≡ Some b
        → Precedes typed make a b
    in_order i j a b lt there here =
        let within = slice_get_within listed j b here in
        let far = sorted_far is_before instance_order listed up i j a (omega arith) within in
        let told = subst (λ z. is_before z (get_or listed i a) ≡ false) (get_or_from_slice_get listed j b a here) far in
        precedes typed make a b
        (subst (λ z. is_before b z ≡ false) (get_or_from_slice_get listed i a a there) told)
        (λ same_name. apart i j a b lt there here
        (name_tells a b sorted proper (all_made i a there) (all_made j b here) same_name))

    all_listed : (number : ℕ) (m : Member) → Contains ms m → m.of ≡ make number
        → (a : Instance) × Contains listed a × (stands typed is a ≡ m)
    all_listed number m has of =
        let there : kind m.of ≡ Some number = ap kind of ∙ is.finds number in (
          instance_at typed number m,
          Contains-permutation (instances_of typed kind ms) listed (instance_at typed number m) moved
              (present typed is ms m number has there),
          member_again typed is m number there,
        )

    pub listing : IsListing typed make ms listed
    listing = record {
      names = λ i a there. (all_made i a there).named;
      only = λ i a there. (all_made i a there).among;
      all = all_listed;
      in_order = in_order;
    }

-- all members have been looked at
module _ (typed : Typed) (seen ms : List Member) (i : ℕ) where
  all_seen : (kind : Decl → Option ℕ) (found : List Instance) → seen ≡ ms → length seen ≤ i
      → found ≡ instances_of typed kind (take i seen) → found ≡ instances_of typed kind ms
  all_seen kind found all over is = is ∙ ap (instances_of typed kind) (take_all i seen over ∙ all)

  pub few_listed : (kind : Decl → Option ℕ) (found listed : List Instance) → seen ≡ ms → length seen ≤ i
      → found ≡ instances_of typed kind (take i seen) → IsPermutation found listed → length ms ≤ 512
      → length listed ≤ 512
  few_listed kind found listed all over is moved few =
      omega (
        arith,
        length_permutation found listed moved,
        ap length (all_seen kind found all over is),
        no_more typed kind ms,
      )

  pub are_listed : (functions roots fs rs : List Instance) → IsWellSorted typed → AreProper typed ms → Distinct ms
      → seen ≡ ms → length seen ≤ i → functions ≡ instances_of typed as_function (take i seen)
      → roots ≡ instances_of typed as_root (take i seen) → IsPermutation functions fs → IsSorted instance_cmp fs
      → IsPermutation roots rs → IsSorted instance_cmp rs → AreListed typed ms fs rs
  are_listed functions roots fs rs sorted proper once all over is_f is_r same_f up_f same_r up_r = record {
    functions = listing typed functions_are ms fs sorted proper once
        (subst (λ l. IsPermutation l fs) (all_seen as_function functions all over is_f) same_f) up_f;
    roots = listing typed roots_are ms rs sorted proper once
        (subst (λ l. IsPermutation l rs) (all_seen as_root roots all over is_r) same_r) up_r;
  }
