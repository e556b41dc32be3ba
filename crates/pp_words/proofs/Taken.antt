-- What the command's own contract says of the words, in the words of this crate.
use Rattle.std.proofs.Common.{◌≡◌, ◌≢◌, ◌==◌, ◌∷◌, List, [], ℕ, Option, Some, None, false, true}
use Rattle.std.proofs.Common.{if◌then◌else◌, not, length, option_map, refl, subst, inl, inr, rules}
use Rattle.std.proofs.Math.Bool.{and-false}
use Rattle.clap.specs.Values.{kind_of}
use Rattle.clap.specs.declared.error.Error.{Error}
use Rattle.clap.specs.declared.error.kind.ErrorKind.TheVariants as kind
use Rattle.clap.specs.Words.{App, HasKind, IsAmong, Kinds, Row, Text, fault_of, is_simple, is_simple_and_free}
use Rattle.clap.specs.Words.{matches_of}
use Rattle.pp_words.specs.Command.{command, faults_in, has_lone_hyphen, values_in}
use Rattle.pp_words.specs.Line.{Line, given_in, line_given, line_of}
use Rattle.pp_words.specs.Task.{Given, Task, task_of}

-- the command has plain options and values that may be any text
pub command_is_free : is_simple_and_free command ≡ true
unfolding command
command_is_free = refl

pub command_is_simple : is_simple command ≡ true
unfolding command
command_is_simple = refl

-- what is said of any such command is true of this one
pub without_faults : (app : App) (words : List Text) → app ≡ command
    → (is_simple_and_free app ≡ true → fault_of app words ≡ []) → faults_in words ≡ []
unfolding faults_in
without_faults app words e says = subst (λ a. fault_of a words ≡ []) e (says (rw e command_is_free))

pub with_faults : (app : App) (words : List Text) → app ≡ command
    → (is_simple_and_free app ≡ true → fault_of app words ≡ [] → ⊥) → faults_in words ≡ [] → ⊥
unfolding faults_in
with_faults app words e says = subst (λ a. fault_of a words ≡ [] → ⊥) e (says (rw e command_is_free))

pub values_found : (app : App) (words : List Text) (rows : List Row) → app ≡ command
    → (is_simple app ≡ true → rows ≡ matches_of app words) → rows ≡ values_in words
unfolding values_in
values_found app words rows e says = subst (λ a. rows ≡ matches_of a words) e (says (rw e command_is_simple))

-- an error that isn't want of memory is one of the kinds
pub some_kind : (kinds : Kinds) (error : Error) → HasKind kinds error → (kind_of error ≡ kind.OutOfMemory → ⊥)
    → kinds ≡ [] → ⊥
some_kind kinds error has other none = elim has
    [ inl memory ↦ other memory | inr among ↦ subst (λ (ks : Kinds). IsAmong (kind_of error) ks) none among ]

-- what the words ask, where the command takes them
pub line_where_taken : (words : List (List ℕ)) (given : Given) → false ≡ has_lone_hyphen words → faults_in words ≡ []
    → given ≡ given_in (values_in words) → line_of words ≡ line_given given
unfolding line_of
line_where_taken words given hyphen faults values = rw (← hyphen, faults, values) refl

pub no_line_of_hyphen : (words : List (List ℕ)) → true ≡ has_lone_hyphen words → line_of words ≡ None
unfolding line_of
no_line_of_hyphen words hyphen = rw (← hyphen) refl

-- kinds that aren't none have a length
some_length : (kinds : Kinds) → (kinds ≡ [] → ⊥) → (length kinds == 0) ≡ false
some_length [] some = absurd (some refl)
some_length (k ∷ kinds) some = search rules

pub no_line_of_faults : (words : List (List ℕ)) → (faults_in words ≡ [] → ⊥) → line_of words ≡ None
unfolding line_of
no_line_of_faults words some = rw (some_length (faults_in words) some, and-false (not (has_lone_hyphen words))) refl

-- the line has the task that the values ask, where they ask one
pub line_of_task : (given : Given) (task : Option Task) → task ≡ task_of given
    → line_given given ≡ option_map (λ task. record { task = task; files = given.files }) task
line_of_task given task e = rw (← e) refl
