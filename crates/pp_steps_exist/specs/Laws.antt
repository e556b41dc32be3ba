-- Each run has values that obey its steps. Source: own.
use Rattle.std.specs.Prelude.{ℕ, ◌<◌, List, length}
use Rattle.pp_prog.specs.declared.expr.Function.{Function}
use Rattle.pp_prog.specs.declared.id.CheckId.{CheckId}
use Rattle.pp_prog.specs.declared.program.Program.{Program}
use Rattle.pp_prog.specs.declared.value.Value.{Value}
use Rattle.pp_sound.specs.Sound.{IsCalled}
use Rattle.pp_steps.specs.Frames.{run_steps}
use Rattle.pp_steps.specs.Meaning.{Missing, Values}
use Rattle.pp_steps.specs.Reads.{AllRead}
use Rattle.pp_steps_run.specs.Laws.{IsRun}

-- on all arguments of the parameters' sorts some values obey the steps of the run
abbrev pub RunsExist : Type 0
RunsExist =
    (p : Program) (i : ℕ) (f : Function) (args : List Value) → IsCalled p i f args → (check : CheckId) (fuel : ℕ)
    → (missing : Missing) → (ρ : Values) × IsRun p f check fuel missing ρ args

-- each step of a run looks at earlier steps alone
abbrev pub RunsRead : Type 0
RunsRead = (functions : List Function) (f : Function) (check : CheckId) (fuel : ℕ)
    → AllRead 0 (run_steps functions f check fuel).steps

-- the number that tells whether the check fails is that of a step
abbrev pub RunsAsk : Type 0
RunsAsk =
    (functions : List Function) (f : Function) (check : CheckId) (fuel : ℕ)
    → (run_steps functions f check fuel).fails < length (run_steps functions f check fuel).steps
