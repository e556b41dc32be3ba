-- What is answered to which task on an accepted program. Source: own.
use Rattle.std.specs.Prelude.{◌≤◌, ℕ, List}
use Rattle.pp_limits.specs.declared.TheConstants.{DEPTH, FUEL, MOST_SEED, ROUNDS}
use Rattle.pp_induct.specs.Reports.{AreLimits}
use Rattle.pp_modes.specs.Lists.{list_lines}
use Rattle.pp_modes.specs.Responses.{Response, report}
use Rattle.pp_modes.specs.Runs.{AnswersRun}
use Rattle.pp_modes.specs.Verdicts.{AnswersMake, AnswersVerify, limits_of}
use Rattle.pp_modes.specs.declared.status.Status.TheVariants as status
use Rattle.pp_prog.specs.declared.program.Program.{Program}
use Rattle.pp_words.specs.Task.{Task, list, make, run, verify}
use Rattle.pp_words.specs.declared.order.Order.{Order}
use Rattle.pp_words.specs.declared.task.Numbers.{Numbers}

-- the numbers of a task are in their ranges; of a seed it is enough that it isn't above its own
abbrev pub IsInRange : Task → Type 0
IsInRange (verify order numbers) = AreLimits (limits_of numbers)
IsInRange (list rounds depth) = (rounds ≤ ROUNDS.most) × (1 ≤ depth) × (depth ≤ DEPTH.most)
IsInRange (run function fuel) = fuel ≤ FUEL.most
IsInRange (make seed numbers) = (seed ≤ MOST_SEED) × AreLimits (limits_of numbers)

pub data AnswersTask (p : Program) : Task → Response → Type 0 where
  verified : {order : Order} {numbers : Numbers} {r : Response} → AnswersVerify p (limits_of numbers) r
      → AnswersTask p (verify order numbers) r
  listed : {rounds depth : ℕ}
      → AnswersTask p (list rounds depth) (report status.AllValid (list_lines p rounds depth))
  made : {seed : ℕ} {numbers : Numbers} {r : Response} → AnswersMake p (limits_of numbers) r
      → AnswersTask p (make seed numbers) r
  run_ends : {name : List ℕ} {fuel : ℕ} {r : Response} → AnswersRun p name fuel r → AnswersTask p (run name fuel) r
