-- Lists of steps of a guess run whose calls are unfolded on demand, while they grow. Source: own.
use Rattle.std.specs.Prelude.{◌≡◌, ℕ, Contains, List, Some, slice_get}
use Rattle.pp_prog.specs.declared.expr.Function.{Function}
use Rattle.pp_prog.specs.declared.id.CheckId.{CheckId}
use Rattle.pp_steps.specs.Guesses.{GuessSteps, Standing, standing}
use Rattle.pp_closure.specs.Refuted.{Denies}
use Rattle.pp_compile.specs.Guessed.{stands}
use Rattle.pp_compile.specs.declared.standing.StandingCall.{StandingCall}
use Rattle.pp_demand_steps.specs.Moves.{AreMoves, Move, demanded}

-- the steps are those of the function's own frame for the check, and of moves behind it, each of a call that waits less
-- than n
pub record IsDemanded (functions : List Function) (f : Function) (check : CheckId) (n : ℕ) (g : GuessSteps) : Type 0
  where
    pub moves : List Move
    pub are : AreMoves functions f check n moves
    pub made : g ≡ demanded functions f check moves

-- no values of some such steps say that the check fails
pub record IsDenied (functions : List Function) (f : Function) (check : CheckId) (n : ℕ) : Type 0 where
  pub steps : GuessSteps
  pub demanded : IsDemanded functions f check n steps
  pub denied : Denies steps.steps steps.fails steps.supposed

-- the calls stand in the steps
abbrev pub AllStand : List StandingCall → GuessSteps → Type 0
AllStand calls g =
    (k : ℕ) (call : StandingCall) → slice_get calls k ≡ Some call → Contains (standing 0 g.steps) (stands call)

-- what stands in the one list stands in the other
abbrev pub StillStands : GuessSteps → GuessSteps → Type 0
StillStands g h = (call : Standing) → Contains (standing 0 g.steps) call → Contains (standing 0 h.steps) call
