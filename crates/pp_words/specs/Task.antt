-- What is asked of the program: the modes, and the table of the options with the modes that read them. Source: own.
use Rattle.std.specs.Prelude.{ℕ, Bool, ◌&&◌, ◌||◌, true, false, List, [], ◌∷◌, None, Option, Some, bytes_eq, codes}
use Rattle.std.specs.Prelude.{if◌then◌else◌, is_none, length, nat_eq, nat_le, option_and_then, option_map}
use Rattle.std.specs.List.{list_all, list_any}
use Rattle.pp_limits.specs.declared.TheConstants.{DEPTH, FUEL, GATES, LEAST_SEED, LEMMAS, MOST_SEED, MOST_SOURCES}
use Rattle.pp_limits.specs.declared.TheConstants.{ROUNDS}
use Rattle.pp_words.specs.Number.{number_in, number_of}
use Rattle.pp_words.specs.Order.{order_of}
use Rattle.pp_words.specs.declared.order.Order.{Order}
use Rattle.pp_words.specs.declared.task.Numbers.{Numbers}

pub data Task : Type 0 where
  verify : Order → Numbers → Task
  list : (rounds depth : ℕ) → Task
  run : (function : List ℕ) → (fuel : ℕ) → Task
  make : (seed : ℕ) → Numbers → Task

-- the values that the words give
pub record Given : Type 0 where
  pub mode : Option (List ℕ)
  pub rounds : Option (List ℕ)
  pub depth : Option (List ℕ)
  pub lemmas : Option (List ℕ)
  pub gates : Option (List ℕ)
  pub order : Option (List ℕ)
  pub function : Option (List ℕ)
  pub fuel : Option (List ℕ)
  pub seed : Option (List ℕ)
  pub files : List (List ℕ)

-- the modes
pub data Mode : Type 0 where
  verifying : Mode
  listing : Mode
  running : Mode
  making : Mode

abbrev pub same_mode : Mode → Mode → Bool
same_mode verifying verifying = true
same_mode listing listing = true
same_mode running running = true
same_mode making making = true
same_mode _ _ = false

-- an option: the value that the words give it, and the modes that read it
pub record Setting : Type 0 where
  pub value : Given → Option (List ℕ)
  pub modes : List Mode

abbrev pub setting : (Given → Option (List ℕ)) → List Mode → Setting
setting value modes = record { value = value; modes = modes }

-- the options but `--mode`
abbrev pub settings : List Setting
settings =
    setting (λ given. given.rounds) (verifying ∷ listing ∷ making ∷ [])
    ∷ setting (λ given. given.depth) (verifying ∷ listing ∷ making ∷ [])
    ∷ setting (λ given. given.lemmas) (verifying ∷ making ∷ [])
    ∷ setting (λ given. given.gates) (verifying ∷ making ∷ [])
    ∷ setting (λ given. given.order) (verifying ∷ [])
    ∷ setting (λ given. given.function) (running ∷ [])
    ∷ setting (λ given. given.fuel) (running ∷ [])
    ∷ setting (λ given. given.seed) (making ∷ [])
    ∷ []

-- the mode is one of these
abbrev pub is_among : List Mode → Mode → Bool
is_among modes mode = list_any (same_mode mode) modes

-- the mode reads each option that is given
abbrev pub reads_all : Mode → Given → Bool
reads_all mode given = list_all (λ s. is_none (s.value given) || is_among s.modes mode) settings

-- the modes that read files
abbrev pub file_modes : List Mode
file_modes = verifying ∷ listing ∷ running ∷ []

-- 1 to 16 files where the mode reads them, and else none
abbrev pub has_files : Mode → Given → Bool
has_files mode given =
    if is_among file_modes mode then nat_le 1 (length given.files) && nat_le (length given.files) MOST_SOURCES
    else nat_eq (length given.files) 0

-- how far functions are verified
abbrev pub numbers_in : Given → Option Numbers
numbers_in given =
    option_and_then (λ rounds. option_and_then (λ depth. option_and_then (λ lemmas. option_map
    (λ gates. record { rounds = rounds; depth = depth; lemmas = lemmas; gates = gates })
    (number_of GATES given.gates)) (number_of LEMMAS given.lemmas)) (number_of DEPTH given.depth))
    (number_of ROUNDS given.rounds)

-- the seed, which has no default
abbrev pub seed_in : Given → Option ℕ
seed_in given = option_and_then (number_in LEAST_SEED MOST_SEED) given.seed

-- What is asked in a mode. In mode `run` the function's name is required, and looked up later; in mode `make` the seed
-- is.
abbrev pub asked : Mode → Given → Option Task
asked verifying given =
    option_and_then (λ order. option_map (verify order) (numbers_in given)) (order_of given.order)
asked listing given =
    option_and_then (λ rounds. option_map (list rounds) (number_of DEPTH given.depth)) (number_of ROUNDS given.rounds)
asked running given =
    option_and_then (λ function. option_map (run function) (number_of FUEL given.fuel)) given.function
asked making given = option_and_then (λ seed. option_map (make seed) (numbers_in given)) (seed_in given)

-- the task of a mode, where the values fit it
abbrev pub task_in : Mode → Given → Option Task
task_in mode given = if has_files mode given && reads_all mode given then asked mode given else None

-- the mode that is written; none is `verify`
abbrev pub mode_named : List ℕ → Option Mode
mode_named name =
    if bytes_eq name (codes "verify") then Some verifying
    else if bytes_eq name (codes "list") then Some listing
    else if bytes_eq name (codes "run") then Some running
    else if bytes_eq name (codes "make") then Some making
    else None

abbrev pub mode_of : Option (List ℕ) → Option Mode
mode_of None = Some verifying
mode_of (Some name) = mode_named name

-- what is asked, where the values fit together
abbrev pub task_of : Given → Option Task
task_of given = option_and_then (λ mode. task_in mode given) (mode_of given.mode)
