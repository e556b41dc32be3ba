-- Members of listings stand at their places.
use Rattle.std.proofs.Common.{◌≡◌, ◌<◌, ℕ, zero, suc, List, [], ◌∷◌, map, length, refl, sym, ap, ◌∙◌, subst, arith}
use Rattle.std.specs.Prelude.{Option, Some, None, slice_get, Contains}
use Rattle.std.specs.Option.{option_map}
use Rattle.std.proofs.lemmas.Option.{same_Some, slice_get-map}
use Rattle.pp_instances.specs.Order.{IsListing, MemberOf}
use Rattle.pp_instances.specs.Same.{place_of}
use Rattle.pp_instances.specs.declared.member.Instance.{Instance}
use Rattle.pp_instances.specs.declared.member.Member.{Member}
use Rattle.pp_members.proofs.Lists.{mapped_in}
use Rattle.pp_translation.specs.Numbers.{stands_for}
use Rattle.pp_typed.specs.declared.typed.Typed.{Typed}
use Rattle.pp_validity.proofs.Placed.{placed}

-- what stands at a place
pub record HasAt {A : Type 0} (xs : List A) (n : ℕ) : Type 0 where
  pub x : A
  pub at : slice_get xs n ≡ Some x

pub at_within : {A : Type 0} (xs : List A) (n : ℕ) → n < length xs → HasAt xs n
at_within [] n lt = absurd (omega (arith, lt))
at_within (x ∷ xs) zero lt = record { x = x; at = refl }
at_within (x ∷ xs) (suc n) lt =
    let later = at_within xs n (omega (arith, lt)) in record { x = later.x; at = later.at }

-- an instance of the listing stands at the place of the member, for which it stands
pub record IsPlaced (kind : MemberOf) (listed : List Instance) (members : List Member) (m : Member) : Type 0 where
  pub i : Instance
  pub at : slice_get listed (place_of members m) ≡ Some i
  pub is : stands_for kind i ≡ m

-- a member of the listing is one of the list of members
pub listed_member : (typed : Typed) (kind : MemberOf) (ms : List Member) (listed : List Instance)
    (members : List Member) → members ≡ map (stands_for kind) listed → IsListing typed kind ms listed
    → (n : ℕ) (m : Member) → m.of ≡ kind n → Contains ms m → Contains members m
listed_member typed kind ms listed members are is n m of has =
    let found = is.all n m has of in
    subst (λ (l : List Member). Contains l m) (sym are)
    (subst (Contains (map (stands_for kind) listed)) found.2 (mapped_in (stands_for kind) listed found.0 found.1))

placed_by : (kind : MemberOf) (listed : List Instance) (members : List Member) (m : Member) (o : Option Instance)
    → slice_get listed (place_of members m) ≡ o → option_map (stands_for kind) o ≡ Some m
    → IsPlaced kind listed members m
placed_by kind listed members m None at is = let no : None ≡ Some m = is in cc
placed_by kind listed members m (Some i) at is = record { i = i; at = at; is = same_Some _ _ is }

-- a member of the listing has its place
pub place_found : (typed : Typed) (kind : MemberOf) (ms : List Member) (listed : List Instance) (members : List Member)
    → members ≡ map (stands_for kind) listed → IsListing typed kind ms listed → (n : ℕ) (m : Member) → m.of ≡ kind n
    → Contains ms m → IsPlaced kind listed members m
place_found typed kind ms listed members are is n m of has =
    let p = place_of members m in
    placed_by kind listed members m (slice_get listed p) refl
    (sym (slice_get-map (stands_for kind) listed p) ∙ ap (λ (l : List Member). slice_get l p) (sym are)
    ∙ placed members m (listed_member typed kind ms listed members are is n m of has))
