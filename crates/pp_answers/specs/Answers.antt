-- What is put for a task and the bytes of the sources that are fetched for it, and with which status the program ends.
-- Source: own.
use Rattle.std.specs.Prelude.{ℕ, List, [], ◌∷◌, Option, None, Some, length}
use Rattle.pp_checks.specs.Rules.{KeepRules}
use Rattle.pp_front.specs.Programs.{IsProgramOf}
use Rattle.pp_front.specs.Refuses.{Refuses}
use Rattle.pp_made.specs.Made.{made_source}
use Rattle.pp_modes.specs.Answers.{AnswersTask}
use Rattle.pp_modes.specs.Responses.{Response, refusal}
use Rattle.pp_modes.specs.declared.status.Status.TheVariants as status
use Rattle.pp_prog.specs.declared.program.Program.{Program}
use Rattle.pp_words.specs.Task.{Task, list, make, run, verify}

-- the sources are accepted, and this is their program
pub record IsAccepted (sources : List (List ℕ)) (p : Program) : Type 0 where
  pub program : IsProgramOf sources p
  pub rules : KeepRules p.types p.functions (length p.functions)

-- the seed of a task that makes its source
abbrev pub seed_of : Task → Option ℕ
seed_of (verify order numbers) = None
seed_of (list rounds depth) = None
seed_of (run function fuel) = None
seed_of (make seed numbers) = Some seed

-- the one source that is made from a seed, and without a seed those that are fetched
abbrev pub sources_by : Option ℕ → List (List ℕ) → List (List ℕ)
sources_by None fetched = fetched
sources_by (Some seed) fetched = made_source seed ∷ []

-- the sources of a task
abbrev pub sources_of : Task → List (List ℕ) → List (List ℕ)
sources_of task fetched = sources_by (seed_of task) fetched

-- one line on `err` where the sources are refused, and else what the mode answers on their program
pub data Answers (task : Task) (fetched : List (List ℕ)) : Response → Type 0 where
  refused : {line : List ℕ} → Refuses (sources_of task fetched) line
      → Answers task fetched (refusal status.Refused line)
  accepted : {r : Response} (p : Program) → IsAccepted (sources_of task fetched) p → AnswersTask p task r
      → Answers task fetched r
