-- What a run reaches is known, even where the dead parts of its steps stand for nothing. Source: own.
use Rattle.std.specs.Prelude.{ℕ, List, All}
use Rattle.pp_prog.specs.declared.expr.Function.{Function}
use Rattle.pp_prog.specs.declared.id.CheckId.{CheckId}
use Rattle.pp_prog.specs.declared.types.Ctor.{Ctor}
use Rattle.pp_steps.specs.Frames.{run_steps}
use Rattle.pp_steps.specs.Known.{AllTell}
use Rattle.pp_steps.specs.Meaning.{Missing, Obeys, Values}

-- The number that tells whether a run fails the check is known, whatever it means that a number is known: if the values
-- obey the steps of the run, each step is known where the operands are that its value depends on, and so are the
-- arguments.
abbrev pub RunsAreKnown : (ℕ → Type 0) → Type 0
RunsAreKnown K =
    (functions : List Function) (f : Function) (check : CheckId) (fuel : ℕ)
    → (ctors : List Ctor) (missing : Missing) (ρ : Values)
    → Obeys ctors missing ρ 0 (run_steps functions f check fuel).steps
    → AllTell ρ K 0 (run_steps functions f check fuel).steps
    → All K (run_steps functions f check fuel).arguments
    → K (run_steps functions f check fuel).fails
