-- What the steps of a guess run tell. Source: own; that what is supposed makes open calls agree is of Suter, Köksal,
-- Kuncak, Satisfiability Modulo Recursive Programs, SAS 2011.
use Rattle.std.specs.Prelude.{◌≡◌, ◌≢◌, ◌↔◌, ◌<◌, ℕ, suc, true, List, [], ◌∷◌, ◌++◌, length, map, Option, None}
use Rattle.std.specs.Prelude.{Some, Err, slice_get, Contains, IsTrue}
use Rattle.pp_prog.specs.declared.expr.Expr.{Expr}
use Rattle.pp_prog.specs.declared.expr.Function.{Function}
use Rattle.pp_prog.specs.declared.id.CheckId.{CheckId}
use Rattle.pp_prog.specs.declared.id.CtorId.{CtorId}
use Rattle.pp_prog.specs.declared.id.FunctionId.{FunctionId}
use Rattle.pp_prog.specs.declared.program.Program.{Program}
use Rattle.pp_prog.specs.declared.sort.Sort.{Sort}
use Rattle.pp_prog.specs.declared.sort.Sort.TheVariants as sort
use Rattle.pp_prog.specs.declared.types.Ctor.{Ctor}
use Rattle.pp_prog.specs.declared.types.TypeTable.{TypeTable}
use Rattle.pp_prog.specs.Sorts.{has_sort, have_sorts, param_sorts}
use Rattle.pp_prog.specs.Table.{is_sort}
use Rattle.pp_checks.specs.Plan.{IsPlanOf, Plan}
use Rattle.pp_steps.specs.Sorted.{AllSorted, Sorts}
use Rattle.pp_prog.specs.declared.value.Value.{Value}
use Rattle.pp_prog.specs.declared.value.Value.TheVariants.{Bool as Truth}
use Rattle.pp_eval.specs.declared.outcome.Stop.TheVariants.{Deep, Fails, Stuck}
use Rattle.pp_eval.specs.Meaning.{CallMeaning, Frame, meaning}
use Rattle.pp_eval.specs.Operators.{truth}
use Rattle.pp_eval.specs.Part.{Part, and_then}
use Rattle.pp_eval.specs.Runs.{run_with}
use Rattle.pp_sound.specs.Sound.{IsCalled}
use Rattle.pp_guess_runs.specs.Answers.{Answering, Entry, IsAnswering, IsTable, answers_of, table}
use Rattle.pp_guess_runs.specs.Guess.{fails, guess, own}
use Rattle.pp_steps.specs.declared.step.Step.{Step}
use Rattle.pp_steps.specs.declared.step.Step.TheVariants as steps
use Rattle.pp_steps.specs.Frames.{result_of}
use Rattle.pp_steps.specs.Guesses.{GuessSteps, Standing, guess_steps, params_of, standing}
use Rattle.pp_steps.specs.Meaning.{Does, Missing, Obeys, Values, bit}
use Rattle.pp_steps.specs.Reads.{AllRead, Below}
use Rattle.pp_steps_run.specs.Told.{AllOf, AreValues, On}
use Rattle.pp_guess_steps.specs.OpenCalls.{answered, own_answered, own_calls, world}
use Rattle.pp_guess_steps.specs.OwnWorld.{answers_left, own_world, table_of}

-- the values obey the steps of round n of the guess run of f for the check, on these arguments
pub record IsGuess (ctors : List Ctor) (functions : List Function) (f : Function) (check : CheckId) (n : ℕ)
    (missing : Missing) (ρ : Values) (args : List Value) : Type 0 where
  pub steps : Obeys ctors missing ρ 0 (guess_steps functions f check n).steps
  pub arguments : AreValues ρ (guess_steps functions f check n).arguments args

-- on all arguments of the parameters' sorts some values obey the steps, whatever open calls are answered
abbrev pub GuessesExist : Type 0
GuessesExist =
    (p : Program) (i : ℕ) (f : Function) (args : List Value) → IsCalled p i f args → (check : CheckId) (n : ℕ)
    → (missing : Missing) → (ρ : Values) × IsGuess p.types.ctors p.functions f check n missing ρ args

-- each step looks at earlier steps alone, and what is asked for are steps
pub record IsReading (g : GuessSteps) : Type 0 where
  pub reads : AllRead 0 g.steps
  pub fails : g.fails < length g.steps
  pub true_one : g.true_one < length g.steps
  pub supposed : Below (length g.steps) g.supposed

abbrev pub GuessesRead : Type 0
GuessesRead =
    (functions : List Function) (f : Function) (check : CheckId) (n : ℕ) → IsReading (guess_steps functions f check n)

-- the steps have sorts, those of the arguments are those of the parameters, and what is asked for are truth values
pub record HaveGuessSorts (types : TypeTable) (g : GuessSteps) (params : List Sort) : Type 0 where
  pub sorts : Sorts
  pub sorted : AllSorted types sorts 0 g.steps
  pub arguments : map sorts g.arguments ≡ params
  pub fails : sorts g.fails ≡ sort.Bool
  pub supposed : AllOf (λ k. sorts k ≡ sort.Bool) g.supposed

-- in a program that has a plan, the steps of each round have sorts
abbrev pub GuessesAreSorted : Type 0
GuessesAreSorted =
    (plan : Plan) (p : Program) → IsPlanOf plan p → (i : ℕ) (f : Function) → slice_get p.functions i ≡ Some f
    → (check : CheckId) (n : ℕ) → HaveGuessSorts p.types (guess_steps p.functions f check n) (param_sorts f.params)

-- what stands for a missing field has its sort
abbrev pub FieldsHaveSorts : TypeTable → Missing → Type 0
FieldsHaveSorts types missing =
    (c : CtorId) (k : Ctor) (place : ℕ) (s : Sort) → slice_get types.ctors c.0 ≡ Some k
    → slice_get k.fields place ≡ Some s → IsTrue (has_sort types.ctors (missing.field c place) s)

-- answers to calls on arguments of the parameters' sorts have the results' sorts
abbrev pub AnswersHaveSorts : TypeTable → List Function → Missing → Type 0
AnswersHaveSorts types functions missing =
    (wait : ℕ) (g : FunctionId) (args : List Value) (v : Value)
    → missing.answer wait g (params_of (slice_get functions g.0)) (result_of (slice_get functions g.0)) args ≡ Some v
    → IsTrue (have_sorts types.ctors args (params_of (slice_get functions g.0)))
    → IsTrue (has_sort types.ctors v (result_of (slice_get functions g.0)))

-- those of a guess run have
abbrev pub GuessesAnswerSorted : Type 0
GuessesAnswerSorted =
    (p : Program) (W : Answering) → IsAnswering p W → (field : CtorId → ℕ → Value) (n : ℕ)
    → AnswersHaveSorts p.types p.functions (world p.functions (answers_of p.types.ctors p.functions W) field n)

-- values that obey the steps and have their sorts
pub record IsSortedGuess (p : Program) (f : Function) (check : CheckId) (n : ℕ) (missing : Missing) (args : List Value)
    (sorts : Sorts) : Type 0 where
  pub values : Values
  pub guess : IsGuess p.types.ctors p.functions f check n missing values args
  pub sorted : (k : ℕ) → k < length (guess_steps p.functions f check n).steps
      → IsTrue (has_sort p.types.ctors (values k) (sorts k))

-- they exist where fields and answers have their sorts, and each sort has a default
abbrev pub SortedGuessesExist : Type 0
SortedGuessesExist =
    (p : Program) (i : ℕ) (f : Function) (args : List Value) → IsCalled p i f args → (check : CheckId) (n : ℕ)
    (missing : Missing) → FieldsHaveSorts p.types missing → AnswersHaveSorts p.types p.functions missing
    → (default : Sort → Value)
    → ((s : Sort) → IsTrue (is_sort p.types.datatypes s) → IsTrue (has_sort p.types.ctors (default s) s))
    → (run : HaveGuessSorts p.types (guess_steps p.functions f check n) (param_sorts f.params))
    → IsSortedGuess p f check n missing args run.sorts

-- ---- what the steps tell

-- the second calls do what the first ones do, where these aren't too deep
abbrev pub Completes : CallMeaning → CallMeaning → Type 0
Completes c d =
    (frame : Frame) (g : FunctionId) (pre measure : Option CheckId) (args : List Value)
    → c frame g pre measure args ≢ Err Deep → d frame g pre measure args ≡ c frame g pre measure args

-- the part is neither cut off by a call that is too deep nor stuck
pub record IsWhole {A : Type 0} (part : Part A) : Type 0 where
  pub deep : part ≢ Err Deep
  pub stuck : part ≢ Err Stuck

-- The number of `fails` is true exactly where the run over the answers of the open calls fails the check; for any
-- answers with which, completed in any way, the run is whole.
abbrev pub GuessesTell : Type 0
GuessesTell =
    (ctors : List Ctor) (functions : List Function) (f : Function) (check : CheckId) (n : ℕ) (missing : Missing)
    (ρ : Values) (args : List Value) → IsGuess ctors functions f check n missing ρ args
    → (contracts outer : CallMeaning) → Completes (answered functions missing 1) contracts
    → Completes (answered functions missing 0) outer
    → IsWhole (run_with (own_calls ctors functions check contracts outer) f args)
    → (bit (ρ (guess_steps functions f check n).fails) ≡ true) ↔
    (run_with (own_answered ctors functions missing check) f args ≡ Err (Fails check))

-- ---- the first half

-- the check fails, and all that is supposed is true
pub record IsSupposed (ρ : Values) (g : GuessSteps) : Type 0 where
  pub fails : On ρ g.fails
  pub supposed : AllOf (On ρ) g.supposed

-- where the guess run with fuel n fails the check, values that obey the steps of round n in its world say so
abbrev pub GuessesSuppose : Type 0
GuessesSuppose =
    (ctors : List Ctor) (functions : List Function) (f : Function) (check : CheckId) (args : List Value) (n : ℕ)
    (answers : Answering) (field : CtorId → ℕ → Value) (ρ : Values)
    → guess ctors functions f check args n answers ≡ fails
    → IsGuess ctors functions f check n (world functions (answers_of ctors functions answers) field n) ρ args
    → IsSupposed ρ (guess_steps functions f check n)

-- ---- the second half

module _ (ctors : List Ctor) (missing : Missing) (ρ : Values) where
  -- what a step does that is no open call
  abbrev pub DoesRest : Step → Value → Type 0
  DoesRest (steps.HasAnswer c) v = Unit {0}
  DoesRest (steps.Answer c) v = Unit {0}
  DoesRest s v = Does ctors missing ρ s v

  -- the values obey all steps but the open calls, where the first step has the number k
  abbrev pub ObeysRest : ℕ → List Step → Type 0
  ObeysRest k [] = Unit {0}
  ObeysRest k (s ∷ ss) = DoesRest s (ρ k) × ObeysRest (suc k) ss

-- both calls are reached, with equal arguments
pub record AreNear (ρ : Values) (c d : Standing) : Type 0 where
  pub first : On ρ c.call.reach
  pub second : On ρ d.call.reach
  pub args : map ρ c.call.args ≡ map ρ d.call.args

-- where both are, and have answers, these are the same; and where they wait equally long, both have one or none has
pub record Agreed (ρ : Values) (c d : Standing) : Type 0 where
  pub has : AreNear ρ c d → c.call.wait ≡ d.call.wait → ρ c.has ≡ ρ d.has
  pub result : AreNear ρ c d → On ρ c.has → On ρ d.has → ρ c.result ≡ ρ d.result

-- where all that is supposed is true, each two calls of one function agree
abbrev pub SupposedAgree : Type 0
SupposedAgree =
    (ctors : List Ctor) (functions : List Function) (f : Function) (check : CheckId) (n : ℕ) (missing : Missing)
    (ρ : Values) → ObeysRest ctors missing ρ 0 (guess_steps functions f check n).steps
    → AllOf (On ρ) (guess_steps functions f check n).supposed
    → (c d : Standing) → Contains (standing 0 (guess_steps functions f check n).steps) c
    → Contains (standing 0 (guess_steps functions f check n).steps) d → c.call.callee ≡ d.call.callee → Agreed ρ c d

-- Over these calls, by how long they wait, the bodies and postconditions of the calls that stand are whole, and so is
-- the run.
pub record AreWhole (ctors : List Ctor) (functions : List Function) (f : Function) (check : CheckId) (ρ : Values)
    (args : List Value) (calls : List Standing) (full : ℕ → CallMeaning) : Type 0 where
  pub body : (c : Standing) (g : Function) → Contains calls c → slice_get functions c.call.callee.0 ≡ Some g
      → IsWhole (meaning (full (suc c.call.wait)) g.body None (map ρ c.call.args))
  pub post : (c : Standing) (g : Function) (post : CheckId × Expr) → Contains calls c
      → slice_get functions c.call.callee.0 ≡ Some g → g.post ≡ Some post
      → IsWhole (and_then (meaning (full (suc c.call.wait)) post.1 None (map ρ c.call.args ++ ρ c.result ∷ [])) truth)
  pub run : IsWhole (run_with (own_calls ctors functions check (full 1) (full 0)) f args)

-- whether a call has an answer is a truth value
abbrev pub AreTruths : Values → List Standing → Type 0
AreTruths ρ calls = (c : Standing) → Contains calls c → ρ c.has ≡ Truth (bit (ρ c.has))

-- Values that obey all steps but the open calls, and for which the check fails and all that is supposed is true, are
-- those of a run that fails the check, over the answers of the calls that no round unfolds: where their own answers,
-- completed in any way, leave all that is evaluated whole.
abbrev pub WholeGuessesAnswer : Type 0
WholeGuessesAnswer =
    (ctors : List Ctor) (functions : List Function) (f : Function) (check : CheckId) (n : ℕ)
    (field : CtorId → ℕ → Value) (ρ : Values) (args : List Value)
    → (let g = guess_steps functions f check n in
    let calls = standing 0 g.steps in
    let mine = own_world field ρ calls in
    ObeysRest ctors mine ρ 0 g.steps → AreValues ρ g.arguments args → IsSupposed ρ g → AreTruths ρ calls
    → (full : ℕ → CallMeaning) → ((wait : ℕ) → Completes (answered functions mine wait) (full wait))
    → AreWhole ctors functions f check ρ args calls full
    → run_with (own ctors functions (answers_left ρ calls n) check n) f args ≡ Err (Fails check))

-- the table is one of the program, and the guess run over it fails the check
pub record FailsOver (p : Program) (f : Function) (check : CheckId) (args : List Value) (n : ℕ)
    (entries : List Entry) : Type 0 where
  pub is_table : IsTable p entries
  pub fails : guess p.types.ctors p.functions f check args n (table entries) ≡ fails

-- Values that obey all steps but the open calls, have the sorts of their steps, and for which the check fails and all
-- that is supposed is true, are those of a guess run that fails the check, over a table: that of the answers of the
-- calls that no round unfolds.
abbrev pub GuessesAnswer : Type 0
GuessesAnswer =
    (p : Program) (i : ℕ) (f : Function) (args : List Value) → IsCalled p i f args → (check : CheckId) (n : ℕ)
    (field : CtorId → ℕ → Value) (ρ : Values)
    → (run : HaveGuessSorts p.types (guess_steps p.functions f check n) (param_sorts f.params))
    → (let g = guess_steps p.functions f check n in
    let calls = standing 0 g.steps in
    ((k : ℕ) → k < length g.steps → IsTrue (has_sort p.types.ctors (ρ k) (run.sorts k)))
    → ObeysRest p.types.ctors (own_world field ρ calls) ρ 0 g.steps → AreValues ρ g.arguments args → IsSupposed ρ g
    → FailsOver p f check args n (table_of p.functions ρ n calls))
