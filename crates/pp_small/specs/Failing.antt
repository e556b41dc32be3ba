-- Arguments that fail a check, and the least fuel with which they do. Source: own.
use Rattle.std.specs.Prelude.{◌≡◌, ◌<◌, ℕ, List}
use Rattle.pp_prog.specs.declared.id.CheckId.{CheckId}
use Rattle.pp_prog.specs.declared.program.Program.{Program}
use Rattle.pp_prog.specs.declared.value.Value.{Value}
use Rattle.pp_eval.specs.declared.outcome.Outcome.TheVariants.{Fails}
use Rattle.pp_eval.specs.Runs.{run_in}
use Rattle.pp_sound.specs.Counterexample.{IsCounterexample}
use Rattle.pp_sound.specs.Sound.{IsCheckOf}
use Rattle.pp_small.specs.declared.failures.Failure.{Failure}

-- the arguments fail the check that is named with them, which is one of function number i, with fuel n, and have at
-- most the height d
pub record IsFailure (p : Program) (i n d : ℕ) (f : Failure) : Type 0 where
  pub own : IsCheckOf p i f.check.0
  pub fails : IsCounterexample p i f.check n d f.args

-- the run of function number i on the arguments, with fuel n, fails the check
abbrev pub FailWith : Program → ℕ → CheckId → List Value → ℕ → Type 0
FailWith p i c args n = run_in p i args n ≡ Fails c

-- n is the least fuel with which it does
pub record IsLeastFuel (p : Program) (i : ℕ) (c : CheckId) (args : List Value) (n : ℕ) : Type 0 where
  pub fails : FailWith p i c args n
  pub least : (m : ℕ) → m < n → FailWith p i c args m → ⊥
