-- What follows of the program of typed units. Source: own.
use Rattle.std.specs.Prelude.{◌≡◌, ◌↔◌, ◌<◌, ℕ, List, length}
use Rattle.pp_instances.specs.Closure.{AreInstances, FillsOver}
use Rattle.pp_instances.specs.declared.member.Member.{Member}
use Rattle.pp_mono.specs.Concrete.{IsConcrete}
use Rattle.pp_prog.specs.declared.program.Program.{Program}
use Rattle.pp_typed.specs.declared.typed.Typed.{Typed}

-- typed units have at most one program
abbrev pub ProgramsAreUnique : Type 0
ProgramsAreUnique =
    (typed : Typed) (texts : List (List ℕ)) (p q : Program) → IsConcrete typed texts p → IsConcrete typed texts q
    → (p.types.datatypes ≡ q.types.datatypes) × (p.types.ctors ≡ q.types.ctors) × (p.functions ≡ q.functions)
    × (p.checks ≡ q.checks)

-- there are more instances than a limit exactly where some closure on the way to them is over it; so units that are
-- refused for this have no program with so few instances
abbrev pub OverfullHaveMany : Type 0
OverfullHaveMany =
    (typed : Typed) (ms : List Member) (limit : ℕ) → AreInstances typed ms
    → FillsOver typed limit ↔ (limit < length ms)
