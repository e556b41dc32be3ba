-- The order of instances: that of the program, and instances of one declaration in the byte order of their printed
-- names.
-- Source: own.
use Rattle.std.specs.Prelude.{◌≡◌, ◌⊎◌, ◌<◌, ℕ, List, Some, slice_get, Contains}
use Rattle.std.specs.Ordering.{nat_cmp}
use Rattle.std.specs.declared.cmp.Ordering.TheVariants.{Less}
use Rattle.std.specs.Cmp.Lexicographic.{slice_cmp}
use Rattle.pp_instances.specs.Names.{printed}
use Rattle.pp_instances.specs.declared.member.Decl.{Decl}
use Rattle.pp_instances.specs.declared.member.Decl.TheVariants.{Function, Root}
use Rattle.pp_instances.specs.declared.member.Instance.{Instance}
use Rattle.pp_instances.specs.declared.member.Member.{Member}
use Rattle.pp_typed.specs.declared.typed.Typed.{Typed}

-- text a comes before text b in the order of their bytes
abbrev pub IsBefore : List ℕ → List ℕ → Type 0
IsBefore a b = slice_cmp nat_cmp a b ≡ Less

-- which of the two kinds of declarations
abbrev pub MemberOf : Type 0
MemberOf = ℕ → Decl

module _ (typed : Typed) (kind : MemberOf) where
  -- the member that an instance stands for
  abbrev pub member_of : Instance → Member
  member_of i = record { of = kind i.number; args = i.args }

  -- an earlier declaration, or the same and an earlier printed name
  abbrev pub Precedes : Instance → Instance → Type 0
  Precedes a b = (a.number < b.number) ⊎ ((a.number ≡ b.number) × IsBefore a.name b.name)

  -- the list has each member of its kind once, with its printed name, in order
  pub record IsListing (ms : List Member) (listed : List Instance) : Type 0 where
    pub names : (i : ℕ) (a : Instance) → slice_get listed i ≡ Some a → a.name ≡ printed typed (member_of a)
    pub only : (i : ℕ) (a : Instance) → slice_get listed i ≡ Some a → Contains ms (member_of a)
    pub all : (number : ℕ) (m : Member) → Contains ms m → m.of ≡ kind number
        → (a : Instance) × Contains listed a × (member_of a ≡ m)
    pub in_order : (i j : ℕ) (a b : Instance) → i < j → slice_get listed i ≡ Some a → slice_get listed j ≡ Some b
        → Precedes a b

-- the functions and the datatypes of the program, in order
pub record AreListed (typed : Typed) (ms : List Member) (fs rs : List Instance) : Type 0 where
  pub functions : IsListing typed Function ms fs
  pub roots : IsListing typed Root ms rs
