-- The steps of a round of a guess run fit the estimate of that round. Source: own.
use Rattle.std.specs.Prelude.{◌≡◌, ◌≤◌, ℕ, ◌+◌, [], Some, length, slice_get}
use Rattle.pp_prog.specs.declared.expr.Function.{Function}
use Rattle.pp_prog.specs.declared.id.CheckId.{CheckId}
use Rattle.pp_prog.specs.declared.program.Program.{Program}
use Rattle.pp_prog.specs.declared.types.TypeTable.{TypeTable}
use Rattle.pp_prog.specs.Sorts.{param_sorts}
use Rattle.pp_checks.specs.Plan.{IsPlanOf, Plan}
use Rattle.pp_estimate.specs.Estimates.{single}
use Rattle.pp_guess_steps.specs.Laws.{HaveGuessSorts}
use Rattle.pp_steps.specs.Guesses.{GuessSteps, guess_steps}
use Rattle.pp_steps.specs.Sorted.{Sorts}
use Rattle.pp_guess_gates.specs.Measure.{round_gates}

-- The constant, the steps, and a gate for each number that is supposed take at most so many gates and inputs, and there
-- are no more steps.
pub record FitIn (types : TypeTable) (σ : Sorts) (g : GuessSteps) (most : ℕ) : Type 0 where
  pub gates : 1 + (round_gates types σ [] 0 0 g.steps + length g.supposed) ≤ most
  pub steps : length g.steps ≤ most

-- in a program that has a plan the steps of round n take at most what round n is estimated at, at depth 1
abbrev pub GuessesFit : Type 0
GuessesFit =
    (plan : Plan) (p : Program) → IsPlanOf plan p → (i : ℕ) (f : Function) → slice_get p.functions i ≡ Some f
    → (check : CheckId) (n : ℕ)
    → (run : HaveGuessSorts p.types (guess_steps p.functions f check n) (param_sorts f.params))
    → FitIn p.types run.sorts (guess_steps p.functions f check n) (single p.types p.functions f n 1)
