-- Laws of guess runs. Source: own.
use Rattle.std.specs.Prelude.{◌≡◌, ◌≤◌, ℕ, List, Option, Some, Ok, IsTrue, slice_get, Contains}
use Rattle.pp_prog.specs.declared.expr.Function.{Function}
use Rattle.pp_prog.specs.declared.id.CheckId.{CheckId}
use Rattle.pp_prog.specs.declared.id.FunctionId.{FunctionId}
use Rattle.pp_prog.specs.declared.program.Program.{Program}
use Rattle.pp_prog.specs.declared.types.Ctor.{Ctor}
use Rattle.pp_prog.specs.declared.value.Value.{Value}
use Rattle.pp_prog.specs.Sorts.{has_sort}
use Rattle.pp_eval.specs.declared.outcome.Outcome.TheVariants.{Done}
use Rattle.pp_eval.specs.Meaning.{Frame}
use Rattle.pp_eval.specs.Runs.{AreArguments, run_at}
use Rattle.pp_sound.specs.Sound.{IsCalled}
use Rattle.pp_guess_runs.specs.Answers.{Answering, Entry, IsAnswering, IsTable, answer_in, answers_of, truth}
use Rattle.pp_guess_runs.specs.Guess.{called, done, guess, own}

-- a table answers each call that it has, once, and no other
pub record TablesAnswerOnce : Type 0 where
  pub answered : (p : Program) (entries : List Entry) → IsTable p entries → (e : Entry) → Contains entries e
      → answer_in entries e.function e.args ≡ Some e.answer
  pub only : (entries : List Entry) (g : FunctionId) (args : List Value) (v : Value) → answer_in entries g args ≡ Some v
      → (e : Entry) × Contains entries e × (e.function ≡ g) × (e.args ≡ args) × (e.answer ≡ v)

-- where calls are answered by what is true with fuel n, a call of a guess run has the value of the real run that is
-- done with n
pub record TruthAgrees : Type 0 where
  pub from_called : (ctors : List Ctor) (functions : List Function) (n m : ℕ) (frame : Frame) (g : FunctionId)
      (pre measure : Option CheckId) (args : List Value) (v w : Value)
      → run_at ctors functions (slice_get functions g.0) args n ≡ Done w
      → called functions (answers_of ctors functions (truth n)) m frame g pre measure args ≡ Ok v → v ≡ w
  pub from_own : (ctors : List Ctor) (functions : List Function) (n m : ℕ) (c : CheckId) (frame : Frame)
      (g : FunctionId)
      (pre measure : Option CheckId) (args : List Value) (v w : Value)
      → run_at ctors functions (slice_get functions g.0) args n ≡ Done w
      → own ctors functions (answers_of ctors functions (truth n)) c m frame g pre measure args ≡ Ok v → v ≡ w

-- with more fuel what is true answers no less
abbrev pub TruthGrows : Type 0
TruthGrows =
    (ctors : List Ctor) (functions : List Function) (n m : ℕ) → n ≤ m → (g : FunctionId) (args : List Value) (v : Value)
    → answers_of ctors functions (truth n) g args ≡ Some v → answers_of ctors functions (truth m) g args ≡ Some v

-- the value of a guess run on arguments of the parameters' sorts has the result's sort, and so has that of each call
pub record GuessesKeepSorts : Type 0 where
  pub runs : (p : Program) (i : ℕ) (f : Function) (args : List Value) → IsCalled p i f args → (c : CheckId) (n : ℕ)
      (W : Answering) → IsAnswering p W → (v : Value) → guess p.types.ctors p.functions f c args n W ≡ done v
      → IsTrue (has_sort p.types.ctors v f.result)
  pub calls : (p : Program) (W : Answering) → IsAnswering p W → (n : ℕ) (frame : Frame) (g : FunctionId)
      (pre measure : Option CheckId) (args : List Value) (f : Function) → slice_get p.functions g.0 ≡ Some f
      → AreArguments p.types.ctors (Some f) args → (v : Value)
      → called p.functions (answers_of p.types.ctors p.functions W) n frame g pre measure args ≡ Ok v
      → IsTrue (has_sort p.types.ctors v f.result)
