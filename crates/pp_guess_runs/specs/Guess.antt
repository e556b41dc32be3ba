-- A guess run of a function for one check: the same evaluation with other calls. In the own frame another check that
-- fails ends in Skip, and measures are compared only for the check itself. Calls from called frames evaluate no
-- precondition and no measure list; any fault there is Skip. A call with fuel evaluates the body and then the
-- postcondition, and Skip where it isn't true, or where the answer to the call differs. A call without fuel is
-- answered. Source: Suter, Köksal, Kuncak, Satisfiability Modulo Recursive Programs, SAS 2011; the five changes are
-- own.
use Rattle.std.specs.Prelude.{ℕ, zero, suc, nat_eq, Bool, false, if◌then◌else◌, List, [], ◌∷◌, ◌++◌, Option, Some, None}
use Rattle.std.specs.Prelude.{Ok, Err, slice_get, ⊤}
use Rattle.pp_prog.specs.declared.expr.Expr.{Expr}
use Rattle.pp_prog.specs.declared.expr.Function.{Function}
use Rattle.pp_prog.specs.declared.id.CheckId.{CheckId}
use Rattle.pp_prog.specs.declared.id.FunctionId.{FunctionId}
use Rattle.pp_prog.specs.declared.types.Ctor.{Ctor}
use Rattle.pp_prog.specs.declared.value.Value.{Value}
use Rattle.pp_eval.specs.declared.outcome.Outcome.{Outcome}
use Rattle.pp_eval.specs.declared.outcome.Outcome.TheVariants as outcome
use Rattle.pp_eval.specs.declared.outcome.Stop.TheVariants as stop
use Rattle.pp_eval.specs.Invocation.{admits, descends, frame_of}
use Rattle.pp_eval.specs.Equality.{equal}
use Rattle.pp_eval.specs.Meaning.{CallMeaning, Frame, meaning}
use Rattle.pp_eval.specs.Operators.{truth}
use Rattle.pp_eval.specs.Part.{Part, and_then, either, inside}
use Rattle.pp_eval.specs.Runs.{run_with}
use Rattle.pp_guess_runs.specs.Answers.{Answering, Answers, answers_of}

-- how a guess run ends
pub data GuessEnd : Type 0 where
  fails : GuessEnd
  outside : GuessEnd
  done : Value → GuessEnd
  skip : GuessEnd

-- whether the site carries the check
abbrev pub is_check : CheckId → Option CheckId → Bool
is_check c None = false
is_check c (Some d) = nat_eq d.0 c.0

-- agreement: where there is an answer, the value that was found is the same
abbrev pub agreed : Option Value → Value → Part Value
agreed None v = Ok v
agreed (Some w) v = either (equal w v) (Ok v) (Err stop.Deep)

-- the postcondition of a called function is true of its value
abbrev pub held : CallMeaning → Option (CheckId × Expr) → List Value → Value → Part Value
held calls None args v = Ok v
held calls (Some post) args v =
    and_then (meaning calls post.1 None (args ++ v ∷ []))
    (λ x. and_then (truth x) (λ t. either t (Ok v) (Err stop.Deep)))

-- the call of function number g: its body, its postcondition, and agreement with the answer to the call
abbrev pub unfolded : CallMeaning → Option Value → Option Function → FunctionId → List Value → Part Value
unfolded calls answer None g args = Err stop.Deep
unfolded calls answer (Some f) g args =
    inside g (and_then (meaning calls f.body None args) (λ v. and_then (held calls f.post args v) (agreed answer)))

-- the answer to a call without fuel; where there is none, the call is too deep
abbrev pub or_deep : Option Value → Part Value
or_deep None = Err stop.Deep
or_deep (Some v) = Ok v

-- calls from called frames, with this fuel
abbrev pub called : List Function → Answers → ℕ → CallMeaning
called functions W zero frame g pre measure args = or_deep (W g args)
called functions W (suc n) frame g pre measure args =
    unfolded (called functions W n) (W g args) (slice_get functions g.0) g args

-- the measure of the called function is compared where the site's measure check is the one that is looked at
abbrev pub compared : List Ctor → CheckId → CallMeaning → List Expr → FunctionId → Option CheckId → Frame → List Value
    → Part ⊤
compared ctors c contracts measure g down frame args =
    either (is_check c down)
    (and_then (inside g (frame_of contracts measure args)) (λ new. descends ctors down frame new)) (Ok tt)

-- a call from the own frame: the precondition, the measure where it is looked at, and the call
abbrev pub own_call : List Ctor → CheckId → CallMeaning → CallMeaning → Option Function → CallMeaning
own_call ctors c contracts outer None frame g pre down args = Err stop.Deep
own_call ctors c contracts outer (Some f) frame g pre down args =
    and_then (admits contracts g f.pre pre args) (λ _.
    and_then (compared ctors c contracts f.measure g down frame args) (λ _. outer frame g pre down args))

-- one less, and 0 of 0
abbrev pub one_less : ℕ → ℕ
one_less zero = zero
one_less (suc n) = n

-- calls from the own frame, with this fuel. The called function's precondition and measure list have one less.
abbrev pub own : List Ctor → List Function → Answers → CheckId → ℕ → CallMeaning
own ctors functions W c n frame g =
    own_call ctors c (called functions W (one_less n)) (called functions W n) (slice_get functions g.0) frame g

-- how a guess run for the check c ends that came to this
abbrev pub guessed : CheckId → Part Outcome → GuessEnd
guessed c (Ok (outcome.Done v)) = done v
guessed c (Ok outcome.Outside) = outside
guessed c (Ok (outcome.Fails d)) = skip
guessed c (Ok (outcome.Inner g d)) = skip
guessed c (Ok outcome.Deep) = skip
guessed c (Err (stop.Fails d)) = if nat_eq d.0 c.0 then fails else skip
guessed c (Err (stop.Inner g d)) = skip
guessed c (Err stop.Deep) = skip
guessed c (Err stop.Stuck) = skip

-- the guess run of f for the check c, with fuel n, where calls without fuel are answered so
abbrev pub guess : List Ctor → List Function → Function → CheckId → List Value → ℕ → Answering → GuessEnd
guess ctors functions f c args n W =
    guessed c (run_with (own ctors functions (answers_of ctors functions W) c n) f args)
