-- What the sort of a written type has to do with the relation. Source: own.
use Rattle.std.specs.Prelude.{◌≡◌, ◌↔◌, ℕ, List, Ok, Err}
use Rattle.pp_fault.specs.declared.Fault.{Fault}
use Rattle.pp_names.specs.Places.{Word}
use Rattle.pp_sorts.specs.IsSort.{IsSort, Breaks}
use Rattle.pp_sorts.specs.SortOf.{sort_of}
use Rattle.pp_tree.specs.Plain.{TypeTree}
use Rattle.pp_typed.specs.declared.sort.GenericSort.{GenericSort}
use Rattle.pp_typed.specs.declared.typed.TypedRoot.{TypedRoot}

-- a written type is a sort exactly where that is the sort that is computed
abbrev pub SortsAreComputed : Type 0
SortsAreComputed = (roots : List TypedRoot) (params : List Word) (source : ℕ) (t : TypeTree) (s : GenericSort)
    → IsSort roots params t s ↔ (sort_of roots params source t ≡ Ok s)

-- the fault stands in the written type of this source
pub record StandsIn (roots : List TypedRoot) (params : List Word) (source : ℕ) (t : TypeTree) (f : Fault) : Type 0 where
  pub in_source : f.source ≡ source
  pub broken : Breaks roots params t f.rule f.name f.at

-- a fault that is computed stands there
abbrev pub FaultsStand : Type 0
FaultsStand = (roots : List TypedRoot) (params : List Word) (source : ℕ) (t : TypeTree) (f : Fault)
    → sort_of roots params source t ≡ Err f → StandsIn roots params source t f
