-- What answers the calls that a guess run doesn't unfold: a finite table of values of the results' sorts, or the
-- values of the real runs with some fuel. Source: Suter, Köksal, Kuncak, Satisfiability Modulo Recursive Programs,
-- SAS 2011, where unfinished calls are left uninterpreted; the table of values is own.
use Rattle.std.specs.Prelude.{◌≡◌, ℕ, nat_eq, Bool, ◌&&◌, if◌then◌else◌, List, [], ◌∷◌, map, Option, Some, None, IsTrue}
use Rattle.std.specs.Prelude.{slice_get, Contains}
use Rattle.pp_prog.specs.declared.expr.Function.{Function}
use Rattle.pp_prog.specs.declared.id.FunctionId.{FunctionId}
use Rattle.pp_prog.specs.declared.program.Program.{Program}
use Rattle.pp_prog.specs.declared.types.Ctor.{Ctor}
use Rattle.pp_prog.specs.declared.value.Value.{Value}
use Rattle.pp_prog.specs.Sorts.{has_sort}
use Rattle.pp_eval.specs.declared.outcome.Outcome.{Outcome}
use Rattle.pp_eval.specs.declared.outcome.Outcome.TheVariants.{Done, Outside, Fails, Inner, Deep}
use Rattle.pp_eval.specs.Equality.{equal, pass_all}
use Rattle.pp_eval.specs.Runs.{run_at}

-- at most one answer to each call of a function
abbrev pub Answers : Type 0
Answers = FunctionId → List Value → Option Value

-- a call with its answer
pub record Entry : Type 0 where
  pub function : FunctionId
  pub args : List Value
  pub answer : Value

-- the answers: a table, or what is true with this fuel
pub data Answering : Type 0 where
  table : List Entry → Answering
  truth : ℕ → Answering

-- whether the entry is of this call
abbrev pub is_of : Entry → FunctionId → List Value → Bool
is_of e g args = nat_eq e.function.0 g.0 && pass_all (map equal e.args) args

-- the first answer to the call
abbrev pub answer_in : List Entry → Answers
answer_in [] g args = None
answer_in (e ∷ es) g args = if is_of e g args then Some e.answer else answer_in es g args

abbrev pub value_done : Outcome → Option Value
value_done (Done v) = Some v
value_done Outside = None
value_done (Fails c) = None
value_done (Inner g c) = None
value_done Deep = None

-- what the answers are in a program of these constructors and functions
abbrev pub answers_of : List Ctor → List Function → Answering → Answers
answers_of ctors functions (table entries) g args = answer_in entries g args
answers_of ctors functions (truth n) g args = value_done (run_at ctors functions (slice_get functions g.0) args n)

-- the table is one of the program: each answer is to a call of a function, has the sort of its result, and is the only
-- one to that call
pub record IsTable (p : Program) (entries : List Entry) : Type 0 where
  pub sorted : (e : Entry) → Contains entries e
      → (f : Function) × (slice_get p.functions e.function.0 ≡ Some f) × IsTrue
      (has_sort p.types.ctors e.answer f.result)
  pub once : (d e : Entry) → Contains entries d → Contains entries e → d.function ≡ e.function → d.args ≡ e.args
      → d.answer ≡ e.answer

-- the answers are a table of the program, or what is true
abbrev pub IsAnswering : Program → Answering → Type 0
IsAnswering p (table entries) = IsTable p entries
IsAnswering p (truth n) = Unit {0}
