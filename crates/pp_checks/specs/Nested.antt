-- What a plan tells of the depth of call trees. Source: own.
use Rattle.std.specs.Prelude.{◌↔◌, ◌<◌, ℕ, Bool, IsTrue, length}
use Rattle.pp_prog.specs.declared.program.Program.{Program}
use Rattle.pp_prog.specs.Calls.{call_table}
use Rattle.pp_checks.specs.Closed.{Nests}
use Rattle.pp_checks.specs.Plan.{IsPlanOf, Plan}

-- whether the call tree of f is at most n deep, in each program of which it is the plan
abbrev pub TellsNested : Plan → ℕ → ℕ → Bool → Type 0
TellsNested plan f n b =
    (program : Program) → IsPlanOf plan program → f < length program.functions
    → IsTrue b ↔ Nests (call_table program.functions) n f
