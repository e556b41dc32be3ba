-- What a line of words asks. Source: own.
use Rattle.std.specs.Prelude.{ℕ, Bool, ◌&&◌, ◌==◌, List, [], None, Option, codes, if◌then◌else◌, length, not}
use Rattle.std.specs.Prelude.{option_map, unwrap_or}
use Rattle.clap.specs.Words.{Row, all_of, first_of}
use Rattle.pp_words.specs.Command.{faults_in, has_lone_hyphen, values_in}
use Rattle.pp_words.specs.Task.{Given, Task, task_of}

-- a task, and the paths of the sources that are fetched for it
pub record Line : Type 0 where
  pub task : Task
  pub files : List (List ℕ)

-- the command takes the words
abbrev pub is_taken : List (List ℕ) → Bool
is_taken words = not (has_lone_hyphen words) && length (faults_in words) == 0

abbrev pub given_in : List Row → Given
given_in rows = record {
  mode = first_of (codes "mode") rows;
  rounds = first_of (codes "rounds") rows;
  depth = first_of (codes "depth") rows;
  lemmas = first_of (codes "lemmas") rows;
  gates = first_of (codes "gates") rows;
  order = first_of (codes "order") rows;
  function = first_of (codes "function") rows;
  fuel = first_of (codes "fuel") rows;
  seed = first_of (codes "seed") rows;
  files = unwrap_or (all_of (codes "file") rows) [];
}

abbrev pub line_given : Given → Option Line
line_given given = option_map (λ task. record { task = task; files = given.files }) (task_of given)

-- what the words ask; None: they are no line
unfoldable pub line_of : List (List ℕ) → Option Line
line_of words = if is_taken words then line_given (given_in (values_in words)) else None
