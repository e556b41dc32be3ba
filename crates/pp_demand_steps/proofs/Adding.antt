-- One move more behind those that were made.
use Rattle.std.proofs.Common.{◌≡◌, ℕ, List, [], ◌∷◌, ◌++◌, refl}
use Rattle.pp_prog.specs.declared.expr.Function.{Function}
use Rattle.pp_prog.specs.declared.id.CheckId.{CheckId}
use Rattle.pp_steps.specs.Guesses.{GuessSteps}
use Rattle.pp_demand_steps.specs.Moves.{AreAllowed, AreMoves, IsAllowed, Move, all_moved, demanded, moved}
use Rattle.pp_demand_steps.specs.Moves.{started_alone}

module _ (functions : List Function) where
  last_moved : (ms : List Move) (g : GuessSteps) (m : Move)
      → all_moved functions g (ms ++ m ∷ []) ≡ moved functions (all_moved functions g ms) m
  last_moved [] g m = refl
  last_moved (x ∷ ms) g m = last_moved ms (moved functions g x) m

  last_allowed : (n : ℕ) (ms : List Move) (g : GuessSteps) (m : Move) → AreAllowed functions n g ms
      → IsAllowed n (all_moved functions g ms) m → AreAllowed functions n g (ms ++ m ∷ [])
  last_allowed n [] g m are is = (is, tt)
  last_allowed n (x ∷ ms) g m are is = (are.0, last_allowed n ms (moved functions g x) m are.1 is)

  -- the list that one move more makes
  pub more_demanded : (f : Function) (check : CheckId) (ms : List Move) (m : Move)
      → demanded functions f check (ms ++ m ∷ []) ≡ moved functions (demanded functions f check ms) m
  more_demanded f check ms m = last_moved ms (started_alone functions f check) m

  -- which is allowed
  pub more_moves : (f : Function) (check : CheckId) (n : ℕ) (ms : List Move) (m : Move)
      → AreMoves functions f check n ms → IsAllowed n (demanded functions f check ms) m
      → AreMoves functions f check n (ms ++ m ∷ [])
  more_moves f check n ms m are is =
      record { allowed = last_allowed n ms (started_alone functions f check) m are.allowed is }
