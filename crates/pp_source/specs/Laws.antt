-- What follows of sources. Source: own.
use Rattle.std.specs.Prelude.{◌≡◌, ℕ, List}
use Rattle.pp_tree.specs.Plain.{UnitTree}
use Rattle.pp_source.specs.Refuses.{Refuses}
use Rattle.pp_source.specs.Units.{IsUnitOf}

-- bytes spell at most one unit
abbrev pub UnitsAreUnique : Type 0
UnitsAreUnique = (bytes : List ℕ) (u v : UnitTree) → IsUnitOf bytes u → IsUnitOf bytes v → u ≡ v

-- a source that is refused spells none
abbrev pub RefusedSpellNone : Type 0
RefusedSpellNone = (number : ℕ) (bytes line : List ℕ) (u : UnitTree) → Refuses number bytes line → IsUnitOf bytes u → ⊥
