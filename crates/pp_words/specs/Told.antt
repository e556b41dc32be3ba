-- What the code's values say.
use Rattle.std.specs.Prelude.{ℕ, List, map, option_map}
use Rattle.std.specs.Borrow.{Bor}
use Rattle.pp_words.specs.Line.{Line}
use Rattle.pp_words.specs.Task.{Given, Mode, Task, list, listing, make, making, run, running, verify}
use Rattle.pp_words.specs.Task.{verifying}
use Rattle.pp_words.specs.declared.given.Given as code_given
use Rattle.pp_words.specs.declared.line.Line as code_line
use Rattle.pp_words.specs.declared.task.Mode as code_mode
use Rattle.pp_words.specs.declared.task.Mode.TheVariants as mode
use Rattle.pp_words.specs.declared.task.Task as code_task
use Rattle.pp_words.specs.declared.task.Task.TheVariants as task

-- the texts that references show
abbrev pub texts : List (Bor (List ℕ)) → List (List ℕ)
texts = map (λ word. word.now)

abbrev pub task_told : code_task.Task → Task
task_told (task.Verify order numbers) = verify order numbers
task_told (task.List rounds depth) = list rounds depth
task_told (task.Run function fuel) = run function.now fuel
task_told (task.Make seed numbers) = make seed numbers

abbrev pub mode_told : code_mode.Mode → Mode
mode_told mode.Verify = verifying
mode_told mode.List = listing
mode_told mode.Run = running
mode_told mode.Make = making

abbrev pub given_told : code_given.Given → Given
given_told given = record {
  mode = option_map (λ text. text.now) given.mode;
  rounds = option_map (λ text. text.now) given.rounds;
  depth = option_map (λ text. text.now) given.depth;
  lemmas = option_map (λ text. text.now) given.lemmas;
  gates = option_map (λ text. text.now) given.gates;
  order = option_map (λ text. text.now) given.order;
  function = option_map (λ text. text.now) given.function;
  fuel = option_map (λ text. text.now) given.fuel;
  seed = option_map (λ text. text.now) given.seed;
  files = texts given.files.items;
}

abbrev pub line_told : code_line.Line → Line
line_told line = record { task = task_told line.task; files = texts line.files.items }
