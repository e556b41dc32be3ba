-- What the steps of a guess run tell whose calls are unfolded on demand. Source: own.
use Rattle.std.specs.Prelude.{◌≡◌, ◌<◌, ℕ, List, IsTrue, Some, length, slice_get}
use Rattle.pp_prog.specs.declared.expr.Function.{Function}
use Rattle.pp_prog.specs.declared.id.CheckId.{CheckId}
use Rattle.pp_prog.specs.declared.id.CtorId.{CtorId}
use Rattle.pp_prog.specs.declared.id.FunctionId.{FunctionId}
use Rattle.pp_prog.specs.declared.program.Program.{Program}
use Rattle.pp_prog.specs.declared.sort.Sort.{Sort}
use Rattle.pp_prog.specs.declared.types.Ctor.{Ctor}
use Rattle.pp_prog.specs.declared.value.Value.{Value}
use Rattle.pp_prog.specs.Sorts.{has_sort, param_sorts}
use Rattle.pp_prog.specs.Table.{is_sort}
use Rattle.pp_checks.specs.Plan.{IsPlanOf, Plan}
use Rattle.pp_sound.specs.Sound.{IsCalled}
use Rattle.pp_guess_runs.specs.Answers.{Answering, Answers, IsAnswering, answers_of}
use Rattle.pp_guess_runs.specs.Guess.{fails, guess}
use Rattle.pp_steps.specs.Guesses.{GuessSteps}
use Rattle.pp_steps.specs.Meaning.{Missing, Obeys, Values}
use Rattle.pp_steps.specs.Sorted.{Sorts}
use Rattle.pp_steps_run.specs.Told.{AreValues}
use Rattle.pp_guess_steps.specs.Laws.{AnswersHaveSorts, FieldsHaveSorts, HaveGuessSorts, IsReading, IsSupposed}
use Rattle.pp_guess_steps.specs.OpenCalls.{world}
use Rattle.pp_demand_steps.specs.Moves.{AreMoves, Move, demanded}

-- ---- the list alone

-- each step looks at earlier steps alone, and what is asked for are steps
abbrev pub MovesRead : Type 0
MovesRead =
    (functions : List Function) (f : Function) (check : CheckId) (n : ℕ) (ms : List Move)
    → AreMoves functions f check n ms → IsReading (demanded functions f check ms)

-- in a program that has a plan, the steps have sorts
abbrev pub MovesAreSorted : Type 0
MovesAreSorted =
    (plan : Plan) (p : Program) → IsPlanOf plan p → (i : ℕ) (f : Function) → slice_get p.functions i ≡ Some f
    → (check : CheckId) (n : ℕ) (ms : List Move) → AreMoves p.functions f check n ms
    → HaveGuessSorts p.types (demanded p.functions f check ms) (param_sorts f.params)

-- ---- values

-- the values obey the steps of the list, on these arguments
pub record IsObeyed (ctors : List Ctor) (g : GuessSteps) (missing : Missing) (ρ : Values) (args : List Value) : Type 0
  where
    pub steps : Obeys ctors missing ρ 0 g.steps
    pub arguments : AreValues ρ g.arguments args

-- values that obey the steps of the list, on these arguments, and have their sorts
pub record HaveValues (ctors : List Ctor) (g : GuessSteps) (missing : Missing) (args : List Value) (sorts : Sorts)
    : Type 0 where
  pub values : Values
  pub obeyed : IsObeyed ctors g missing values args
  pub sorted : (k : ℕ) → k < length g.steps → IsTrue (has_sort ctors (values k) (sorts k))

-- they exist where missing fields and answers have their sorts, and each sort has a default
abbrev pub MovesExist : Type 0
MovesExist =
    (p : Program) (i : ℕ) (f : Function) (args : List Value) → IsCalled p i f args
    → (check : CheckId) (n : ℕ) (ms : List Move) → AreMoves p.functions f check n ms
    → (missing : Missing) → FieldsHaveSorts p.types missing → AnswersHaveSorts p.types p.functions missing
    → (default : Sort → Value)
    → ((s : Sort) → IsTrue (is_sort p.types.datatypes s) → IsTrue (has_sort p.types.ctors (default s) s))
    → (run : HaveGuessSorts p.types (demanded p.functions f check ms) (param_sorts f.params))
    → HaveValues p.types.ctors (demanded p.functions f check ms) missing args run.sorts

-- ---- what they tell

-- Where the guess run with fuel n fails the check, values that obey the steps in its world say so, whichever calls were
-- unfolded that wait less than n.
abbrev pub MovesSuppose : Type 0
MovesSuppose =
    (ctors : List Ctor) (functions : List Function) (f : Function) (check : CheckId) (args : List Value) (n : ℕ)
    (answers : Answering) (field : CtorId → ℕ → Value) (ρ : Values) (ms : List Move)
    → guess ctors functions f check args n answers ≡ fails → AreMoves functions f check n ms
    → IsObeyed ctors (demanded functions f check ms) (world functions (answers_of ctors functions answers) field n) ρ
    args
    → IsSupposed ρ (demanded functions f check ms)

-- two calls of one function on the same arguments that both have an answer have the same one, however long they wait
abbrev pub AnswersAlike : Missing → Type 0
AnswersAlike missing =
    (w v : ℕ) (g : FunctionId) (params : List Sort) (result : Sort) (args : List Value) (x y : Value)
    → missing.answer w g params result args ≡ Some x → missing.answer v g params result args ≡ Some y → x ≡ y

-- in the world of a guess run they have
abbrev pub WorldAlike : Type 0
WorldAlike =
    (functions : List Function) (answers : Answers) (field : CtorId → ℕ → Value) (n : ℕ)
    → AnswersAlike (world functions answers field n)

-- ---- a guess run that fails

-- on some arguments, values that obey the steps of the moves and have their sorts, for which the check fails and all
-- that is supposed is true; and each two calls on the same arguments that have an answer have the same one
pub record IsDemandedGuess (p : Program) (f : Function) (check : CheckId) (ms : List Move) (sorts : Sorts) : Type 0
  where
    pub args : List Value
    pub missing : Missing
    pub alike : AnswersAlike missing
    pub has_values : HaveValues p.types.ctors (demanded p.functions f check ms) missing args sorts
    pub supposed : IsSupposed has_values.values (demanded p.functions f check ms)

-- Where the guess run with fuel n fails the check there are such values, for each list of moves of calls that wait less
-- than n: whatever stands for missing fields with its sort, and by whatever default each sort has.
abbrev pub FailingMovesExist : Type 0
FailingMovesExist =
    (p : Program) (i : ℕ) (f : Function) (args : List Value) → IsCalled p i f args → (check : CheckId) (n : ℕ)
    (answers : Answering) → IsAnswering p answers → guess p.types.ctors p.functions f check args n answers ≡ fails
    → (ms : List Move) → AreMoves p.functions f check n ms
    → (field : CtorId → ℕ → Value)
    → FieldsHaveSorts p.types (world p.functions (answers_of p.types.ctors p.functions answers) field n)
    → (default : Sort → Value)
    → ((s : Sort) → IsTrue (is_sort p.types.datatypes s) → IsTrue (has_sort p.types.ctors (default s) s))
    → (run : HaveGuessSorts p.types (demanded p.functions f check ms) (param_sorts f.params))
    → IsDemandedGuess p f check ms run.sorts
