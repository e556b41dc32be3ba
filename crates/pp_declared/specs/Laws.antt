-- What the declarations that are computed have to do with the relation. Source: own.
use Rattle.std.specs.Prelude.{◌≡◌, ◌↔◌, List, Ok, Err}
use Rattle.pp_declared.specs.Declare.{declare}
use Rattle.pp_declared.specs.Declares.{Declares}
use Rattle.pp_declared.specs.Fault.{DeclaresBreak}
use Rattle.pp_fault.specs.declared.Fault.{Fault}
use Rattle.pp_tree.specs.Plain.{UnitTree}
use Rattle.pp_typed.specs.declared.declared.Declared.{Declared}

-- units declare exactly what is computed, and nothing where a fault is
abbrev pub DeclarationsAreComputed : Type 0
DeclarationsAreComputed = (units : List UnitTree) (d : Declared) → Declares units d ↔ (declare units ≡ Ok d)

-- a fault that is computed stands there
abbrev pub FaultsStand : Type 0
FaultsStand = (units : List UnitTree) (f : Fault) → declare units ≡ Err f
    → DeclaresBreak units f.rule f.name f.source f.at
