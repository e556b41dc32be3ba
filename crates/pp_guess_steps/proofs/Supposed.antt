-- The first half: where the guess run fails, values that obey the steps of round N in the world of its answers make
-- the failing number and all that is supposed true.
use Rattle.std.proofs.Common.{◌≡◌, ℕ, List}
use Rattle.pp_prog.specs.declared.expr.Function.{Function}
use Rattle.pp_prog.specs.declared.id.CheckId.{CheckId}
use Rattle.pp_prog.specs.declared.id.CtorId.{CtorId}
use Rattle.pp_prog.specs.declared.types.Ctor.{Ctor}
use Rattle.pp_prog.specs.declared.value.Value.{Value}
use Rattle.pp_prog.specs.Sorts.{param_sorts}
use Rattle.pp_eval.specs.Runs.{run_with}
use Rattle.pp_guess_runs.specs.Answers.{Answers}
use Rattle.pp_guess_runs.specs.Guess.{own}
use Rattle.pp_steps.specs.Frames.{arguments}
use Rattle.pp_steps.specs.Guesses.{guess_steps}
use Rattle.pp_steps.specs.Meaning.{Obeys, Values}
use Rattle.pp_steps_run.specs.Told.{AllOf, AreValues, On}
use Rattle.pp_guess_steps.proofs.Failures.{failing, first_half}
use Rattle.pp_guess_steps.specs.OpenCalls.{world}
use Rattle.pp_guess_steps.proofs.CallsPaired.{base_paired, guess_paired, unfolded_paired}

pub guess_supposes : (ctors : List Ctor) (functions : List Function) (W : Answers) (field : CtorId → ℕ → Value) (N : ℕ)
    (ρ : Values) (c : CheckId) (f : Function) (args : List Value)
    → run_with (own ctors functions W c N) f args ≡ failing c
    → Obeys ctors (world functions W field N) ρ 0 (guess_steps functions f c N).steps
    → AreValues ρ (arguments (param_sorts f.params)).out args
    → On ρ (guess_steps functions f c N).fails × AllOf (On ρ) (guess_steps functions f c N).supposed
guess_supposes ctors functions W field N ρ c f args wrong obeys are =
    first_half ctors functions W field N ρ c f args wrong (record {
      first = base_paired functions f c;
      rounds = λ r. guess_paired functions f c r;
      unfolded = λ r. unfolded_paired functions f c r;
    }) obeys are
