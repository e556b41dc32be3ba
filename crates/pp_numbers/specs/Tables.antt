-- What the tables of numbers tell. Source: own.
use Rattle.std.specs.Prelude.{◌≡◌, ◌<◌, ◌≤◌, ◌^◌, ℕ, List, Some, length, slice_get}
use Rattle.pp_instances.specs.declared.member.Member.{Member}
use Rattle.pp_translation.specs.Numbers.{first_of, rank_of}
use Rattle.pp_numbers.specs.declared.numbers.Numbers.{Numbers}
use Rattle.pp_typed.specs.Sorted.{ctors_of}
use Rattle.pp_typed.specs.declared.typed.TypedCtor.{TypedCtor}

-- numbers of 32 bits hold the constructors of these datatypes
pub record HasRoom (all : List TypedCtor) (roots : List Member) : Type 0 where
  pub few_firsts : (d : ℕ) → first_of all roots d < 2 ^ 31
  pub few_ctors : (r : ℕ) → length (ctors_of all r) < 2 ^ 31

-- each constructor is one of so many roots
abbrev pub IsOneOf : ℕ → TypedCtor → Type 0
IsOneOf n c = c.root < n

-- at each constructor's place its place among those of its root
abbrev pub AreRanks : List TypedCtor → List ℕ → Type 0
AreRanks all ranks = (c : ℕ) (k : TypedCtor) → slice_get all c ≡ Some k → slice_get ranks c ≡ Some (rank_of all c k)

-- the tables are those of these constructors: at each datatype's place its first constructor, and one more for the end;
-- at each constructor's place its place among those of its root
pub record AreTables (all : List TypedCtor) (n : Numbers) : Type 0 where
  pub few_roots : length n.roots < 2 ^ 31
  pub few_functions : length n.functions < 2 ^ 31
  pub firsts : (d : ℕ) → d ≤ length n.roots → slice_get n.firsts d ≡ Some (first_of all n.roots d)
  pub ranks : AreRanks all n.ranks
  pub few_firsts : (d : ℕ) → first_of all n.roots d < 2 ^ 31
  pub few_ranks : (c : ℕ) (k : TypedCtor) → slice_get all c ≡ Some k → rank_of all c k < 2 ^ 31
