-- What open calls come to, and the world in which they have the answers of a guess run. Source: own.
use Rattle.std.specs.Prelude.{ℕ, ◌-◌, List, Option, Some, None, Ok, Err, slice_get}
use Rattle.pp_prog.specs.declared.expr.Function.{Function}
use Rattle.pp_prog.specs.declared.id.CheckId.{CheckId}
use Rattle.pp_prog.specs.declared.id.CtorId.{CtorId}
use Rattle.pp_prog.specs.declared.types.Ctor.{Ctor}
use Rattle.pp_prog.specs.declared.value.Value.{Value}
use Rattle.pp_eval.specs.Meaning.{CallMeaning}
use Rattle.pp_eval.specs.Part.{Part}
use Rattle.pp_guess_runs.specs.Answers.{Answers}
use Rattle.pp_guess_runs.specs.Guess.{called, or_deep, own_call}
use Rattle.pp_steps.specs.Frames.{result_of}
use Rattle.pp_steps.specs.Guesses.{params_of}
use Rattle.pp_steps.specs.Meaning.{Missing}

-- a call that waits so long has the answer that there is, and is too deep where there is none
abbrev pub answered : List Function → Missing → ℕ → CallMeaning
answered functions missing wait frame g pre measure args =
    or_deep (missing.answer wait g (params_of (slice_get functions g.0)) (result_of (slice_get functions g.0)) args)

-- calls from the own frame, by what the calls of their contracts come to, and what they do themselves
abbrev pub own_calls : List Ctor → List Function → CheckId → CallMeaning → CallMeaning → CallMeaning
own_calls ctors functions check contracts outer frame g =
    own_call ctors check contracts outer (slice_get functions g.0) frame g

-- calls from the own frame where open calls have these answers: those of contracts wait one round more
abbrev pub own_answered : List Ctor → List Function → Missing → CheckId → CallMeaning
own_answered ctors functions missing check =
    own_calls ctors functions check (answered functions missing 1) (answered functions missing 0)

abbrev pub value_of : Part Value → Option Value
value_of (Ok v) = Some v
value_of (Err s) = None

-- the world of the guess run with fuel n: a call that waits so many rounds has so much less fuel
abbrev pub world : List Function → Answers → (CtorId → ℕ → Value) → ℕ → Missing
world functions W field n = record {
  field = field;
  answer = λ wait g params result args. value_of (called functions W (n - wait) None g None None args);
}
