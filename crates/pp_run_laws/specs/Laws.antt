-- Laws of runs. Source: own.
use Rattle.std.specs.Prelude.{◌≡◌, ◌≢◌, ◌<◌, ◌≤◌, ℕ, suc, List, Option, Some, None, Ok, Err, IsTrue, length, slice_get}
use Rattle.std.specs.Prelude.{Contains}
use Rattle.std.specs.List.{All}
use Rattle.pp_prog.specs.declared.expr.Expr.{Expr}
use Rattle.pp_prog.specs.declared.expr.Function.{Function}
use Rattle.pp_prog.specs.declared.id.CheckId.{CheckId}
use Rattle.pp_prog.specs.declared.id.FunctionId.{FunctionId}
use Rattle.pp_prog.specs.declared.program.Program.{Program}
use Rattle.pp_prog.specs.declared.sort.Sort.{Sort}
use Rattle.pp_prog.specs.declared.types.Ctor.{Ctor}
use Rattle.pp_prog.specs.declared.value.Value.{Value}
use Rattle.pp_prog.specs.Calls.{call_table, calls, function_calls}
use Rattle.pp_prog.specs.Listing as site
use Rattle.pp_prog.specs.Sorts.{has_sort, have_sorts}
use Rattle.pp_prog.specs.Valid.{Carries}
use Rattle.pp_prog.specs.Values.{IsBelow, height}
use Rattle.pp_eval.specs.declared.outcome.Outcome.{Outcome}
use Rattle.pp_eval.specs.declared.outcome.Outcome.TheVariants as outcome
use Rattle.pp_eval.specs.declared.outcome.Stop.TheVariants.{Deep, Fails, Inner, Stuck}
use Rattle.pp_eval.specs.Invocation.{calls_to, descends, frame_of}
use Rattle.pp_eval.specs.Meaning.{CallMeaning, Frame, meaning}
use Rattle.pp_eval.specs.Measure.{is_below}
use Rattle.pp_eval.specs.Part.{Part, and_then, failed}
use Rattle.pp_eval.specs.Runs.{AreArguments, outcome as run_outcome, run, run_with}
use Rattle.pp_sound.specs.Sound.{IsCalled, IsCheckOf}
use Rattle.pp_checks.specs.Closed.{Nests}
use Rattle.pp_checks.specs.Rules.{measure_sorts}

-- the two do the same at each call of one of these functions
abbrev pub SameAt : List ℕ → CallMeaning → CallMeaning → Type 0
SameAt gs c d =
    (frame : Frame) (g : FunctionId) → Contains gs g.0 → (pre measure : Option CheckId) (args : List Value)
    → c frame g pre measure args ≡ d frame g pre measure args

-- an expression depends only on the functions that it calls, and a run on those that its function calls
pub record DependOnCallees : Type 0 where
  pub expressions : (c d : CallMeaning) (e : Expr) → SameAt (calls e) c d → (frame : Frame) (env : List Value)
      → meaning c e frame env ≡ meaning d e frame env
  pub runs : (c d : CallMeaning) (f : Function) → SameAt (function_calls f) c d → (args : List Value)
      → run_with c f args ≡ run_with d f args

-- where each of finitely many runs has fuel with which it isn't Deep, one fuel serves them all
abbrev pub OneFuelServes : Type 0
OneFuelServes =
    (ctors : List Ctor) (functions : List Function) (runs : List (Function × List Value))
    → All (λ r. (n : ℕ) × (run ctors functions r.0 r.1 n ≢ outcome.Deep)) runs
    → (n : ℕ) × All (λ r. run ctors functions r.0 r.1 n ≢ outcome.Deep) runs

-- a call with one unit of fuel more against the run of the function: where the run is outside, the call fails the
-- site's precondition check; where it is done, the call has the run's value, if the measure check lets it
pub record CallsAreRuns : Type 0 where
  pub outside : (ctors : List Ctor) (functions : List Function) (g : FunctionId) (f : Function)
      → slice_get functions g.0 ≡ Some f → (args : List Value) (n : ℕ)
      → run ctors functions f args n ≡ outcome.Outside → (frame : Frame) (pre measure : Option CheckId)
      → calls_to ctors functions (suc n) frame g pre measure args ≡ failed pre
  pub done : (ctors : List Ctor) (functions : List Function) (g : FunctionId) (f : Function)
      → slice_get functions g.0 ≡ Some f → (args : List Value) (n : ℕ) (v : Value)
      → run ctors functions f args n ≡ outcome.Done v
      → (new : Frame) × (frame_of (calls_to ctors functions n) f.measure args ≡ Ok new)
      × ((frame : Frame) (pre measure : Option CheckId) → calls_to ctors functions (suc n) frame g pre measure args
      ≡ and_then (descends ctors measure frame new) (λ _. Ok v))

-- a function whose call tree is at most n deep is never out of fuel with n
abbrev pub NestedNeverDeep : Type 0
NestedNeverDeep =
    (p : Program) (i : ℕ) (f : Function) (args : List Value) → IsCalled p i f args → (n : ℕ)
    → Nests (call_table p.functions) n i → run p.types.ctors p.functions f args n ≢ outcome.Deep

-- the check, where there is one, is one of function number i
abbrev pub IsOwnCheck : Program → ℕ → Option CheckId → Type 0
IsOwnCheck p i None = Unit {0}
IsOwnCheck p i (Some c) = IsCheckOf p i c.0

-- a value of the sort, a failing check of function number i, or a failing check inside another function
abbrev pub IsAnswered : Program → ℕ → Sort → Part Value → Type 0
IsAnswered p i s (Ok v) = IsTrue (has_sort p.types.ctors v s)
IsAnswered p i s (Err (Fails c)) = IsCheckOf p i c.0
IsAnswered p i s (Err (Inner g c)) = (g.0 < length p.functions) × IsCheckOf p g.0 c.0
IsAnswered p i s (Err Deep) = ⊥
IsAnswered p i s (Err Stuck) = ⊥

-- each call that f can make is answered so, where f is function number i: of one of the functions that it calls, on
-- arguments of the parameters' sorts, at a site that carries checks exactly where it can fail
pub record CallsAnswered (p : Program) (i : ℕ) (f : Function) (calls : CallMeaning) : Type 0 where
  pub each : (frame : Frame) (g : FunctionId) (pre measure : Option CheckId) (args : List Value) (h : Function)
      → Contains (function_calls f) g.0 → slice_get p.functions g.0 ≡ Some h
      → AreArguments p.types.ctors (Some h) args → Carries p.types p.functions i (site.precondition g pre)
      → Carries p.types p.functions i (site.measure g measure) → IsOwnCheck p i pre → IsOwnCheck p i measure
      → IsAnswered p i h.result (calls frame g pre measure args)

-- a run that is done has a value of the result's sort, and a check that it fails is one of its function's or of that in
-- which it fails; it isn't Deep
abbrev pub IsAnsweredRun : Program → ℕ → Sort → Outcome → Type 0
IsAnsweredRun p i s (outcome.Done v) = IsTrue (has_sort p.types.ctors v s)
IsAnsweredRun p i s outcome.Outside = Unit {0}
IsAnsweredRun p i s (outcome.Fails c) = IsCheckOf p i c.0
IsAnsweredRun p i s (outcome.Inner g c) = (g.0 < length p.functions) × IsCheckOf p g.0 c.0
IsAnsweredRun p i s outcome.Deep = ⊥

-- a run is sound, whatever its calls do, as far as those are answered that it can make
abbrev pub AnsweredCallsSuffice : Type 0
AnsweredCallsSuffice =
    (p : Program) (i : ℕ) (f : Function) (args : List Value) → IsCalled p i f args → (calls : CallMeaning)
    → CallsAnswered p i f calls → IsAnsweredRun p i f.result (run_outcome (run_with calls f args))

-- trees go down in height, and no list of measure values goes down for ever
pub record MeasuresEnd : Type 0 where
  pub lower : (t u : Value) → IsBelow t u → height t < height u
  pub ends : (ctors : List Ctor) (values : ℕ → List Value)
      → ((i : ℕ) → IsTrue (is_below ctors (values (suc i)) (values i))) → ⊥

-- the measure values of a frame have the sorts of the function's measure
abbrev pub MeasuresKeepSorts : Type 0
MeasuresKeepSorts =
    (p : Program) (i : ℕ) (f : Function) (args values : List Value) → IsCalled p i f args → (n : ℕ)
    → frame_of (calls_to p.types.ctors p.functions n) f.measure args ≡ Ok (Some values)
    → IsTrue (have_sorts p.types.ctors values (measure_sorts p.types p.functions f))
