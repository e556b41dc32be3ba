-- Values that obey the steps of a run tell the run. Source: own.
use Rattle.std.specs.Prelude.{◌≡◌, ◌↔◌, ℕ, true, List}
use Rattle.pp_prog.specs.declared.expr.Function.{Function}
use Rattle.pp_prog.specs.declared.id.CheckId.{CheckId}
use Rattle.pp_prog.specs.declared.program.Program.{Program}
use Rattle.pp_prog.specs.declared.value.Value.{Value}
use Rattle.pp_eval.specs.declared.outcome.Outcome.TheVariants.{Fails}
use Rattle.pp_eval.specs.Runs.{run}
use Rattle.pp_sound.specs.Sound.{IsCalled}
use Rattle.pp_steps.specs.Frames.{run_steps}
use Rattle.pp_steps.specs.Meaning.{Missing, Obeys, Values, bit}
use Rattle.pp_steps_run.specs.Told.{AreValues}

-- the values obey the steps of f's run with this fuel, of which the check is asked, on these arguments
pub record IsRun (p : Program) (f : Function) (check : CheckId) (fuel : ℕ) (missing : Missing) (ρ : Values)
    (args : List Value)
    : Type 0 where
  pub steps : Obeys p.types.ctors missing ρ 0 (run_steps p.functions f check fuel).steps
  pub arguments : AreValues ρ (run_steps p.functions f check fuel).arguments args

-- the number of `fails` is true exactly where the run fails the check
abbrev pub TellRuns : Type 0
TellRuns =
    (p : Program) (i : ℕ) (f : Function) (args : List Value) → IsCalled p i f args → (check : CheckId) (fuel : ℕ)
    → (missing : Missing) (ρ : Values) → IsRun p f check fuel missing ρ args
    → (bit (ρ (run_steps p.functions f check fuel).fails) ≡ true) ↔
    (run p.types.ctors p.functions f args fuel ≡ Fails check)
