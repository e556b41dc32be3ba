-- Values of a guess run that fails a check. Source: own.
use Rattle.std.specs.Prelude.{ℕ, ◌<◌, List, IsTrue, length}
use Rattle.pp_prog.specs.declared.expr.Function.{Function}
use Rattle.pp_prog.specs.declared.id.CheckId.{CheckId}
use Rattle.pp_prog.specs.declared.program.Program.{Program}
use Rattle.pp_prog.specs.declared.value.Value.{Value}
use Rattle.pp_prog.specs.Sorts.{has_sort}
use Rattle.pp_steps.specs.Guesses.{guess_steps}
use Rattle.pp_steps.specs.Meaning.{Missing, Values}
use Rattle.pp_steps.specs.Sorted.{Sorts}
use Rattle.pp_guess_steps.specs.Laws.{IsGuess, IsSupposed}
use Rattle.pp_demand_steps.specs.Laws.{AnswersAlike}

-- on some arguments, values that obey the steps of round n and have their sorts, for which the check fails and all that
-- is supposed is true; and each two calls on the same arguments that have an answer have the same one
pub record IsFailingGuess (p : Program) (f : Function) (check : CheckId) (n : ℕ) (sorts : Sorts) : Type 0 where
  pub args : List Value
  pub missing : Missing
  pub alike : AnswersAlike missing
  pub values : Values
  pub guess : IsGuess p.types.ctors p.functions f check n missing values args
  pub sorted : (k : ℕ) → k < length (guess_steps p.functions f check n).steps
      → IsTrue (has_sort p.types.ctors (values k) (sorts k))
  pub supposed : IsSupposed values (guess_steps p.functions f check n)
