-- Which program sources have. Source: own.
use Rattle.std.specs.Prelude.{◌≡◌, ◌≤◌, ℕ, List, [], ◌∷◌, ◌++◌, Vec, length}
use Rattle.pp_mono.specs.Concrete.{IsConcrete}
use Rattle.pp_prog.specs.declared.program.Program.{Program}
use Rattle.pp_source.specs.Units.{IsUnitOf}
use Rattle.pp_text.specs.Limits.{most_bytes}
use Rattle.pp_tree.specs.Plain.{UnitTree}
use Rattle.pp_typed.specs.declared.typed.Typed.{Typed}
use Rattle.pp_types_laws.specs.Typing.{HasTyping}

-- the bytes of a source
abbrev pub bytes_of : {Z : Type 0} → Vec ℕ Z → List ℕ
bytes_of source = source.items

-- a source isn't longer than it may be
abbrev pub IsShort : {Z : Type 0} → Vec ℕ Z → Type 0
IsShort source = length source.items ≤ most_bytes

-- the sources spell these units, one each
pub data SpellUnits : List (List ℕ) → List UnitTree → Type 0 where
  no_sources : SpellUnits [] []
  one_source : {bytes : List ℕ} {unit : UnitTree} {sources : List (List ℕ)} {units : List UnitTree}
      → IsUnitOf bytes unit
      → SpellUnits sources units → SpellUnits (bytes ∷ sources) (unit ∷ units)

-- the sources spell units that have this typing
pub record HaveTyping (sources : List (List ℕ)) (typed : Typed) : Type 0 where
  pub units : List UnitTree
  pub spelled : SpellUnits sources units
  pub typing : HasTyping units typed

-- the program is that of the instances of the typed units that the sources spell
pub record IsProgramOf (sources : List (List ℕ)) (p : Program) : Type 0 where
  pub typed : Typed
  pub typing : HaveTyping sources typed
  pub concrete : IsConcrete typed sources p

-- one more source spells one more unit
pub record SpellsNext (bytes : List ℕ) (before after : List UnitTree) : Type 0 where
  pub unit : UnitTree
  pub spelled : IsUnitOf bytes unit
  pub added : after ≡ before ++ unit ∷ []
