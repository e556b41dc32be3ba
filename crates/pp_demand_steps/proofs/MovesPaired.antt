-- In the steps of moves each answer stands behind the number that tells whether there is one, and calls bear the sorts
-- of their functions.
use Rattle.std.proofs.Common.{ℕ, List, refl}
use Rattle.pp_prog.specs.declared.expr.Function.{Function}
use Rattle.pp_prog.specs.declared.id.CheckId.{CheckId}
use Rattle.pp_steps_run.proofs.Pieces.{all_join}
use Rattle.pp_guess_steps.proofs.CallsPaired.{paired_join, paired_one, pattern_fits, simple_quiet}
use Rattle.pp_guess_steps.proofs.Labels.{IsLabelled, Labelled, one_labelled}
use Rattle.pp_guess_steps.proofs.Rounds.{Paired}
use Rattle.pp_demand_steps.specs.Moves.{Move, demanded, move_steps}
use Rattle.pp_demand_steps.proofs.ClosedMoves.{demanded_closed, move_closed}

module _ (functions : List Function) where
  pub move_paired : (k : ℕ) (m : Move) → Paired (move_steps functions k m).steps
  move_paired =
      move_closed Paired paired_join tt (λ s h. paired_one s (simple_quiet s h))
      (pattern_fits Paired paired_join tt paired_one) functions (λ w k reach g pre down args. (refl, tt))

  pub move_labelled : (k : ℕ) (m : Move) → Labelled functions (move_steps functions k m).steps
  move_labelled =
      move_closed (Labelled functions) (all_join (IsLabelled functions)) tt
      (λ s h. one_labelled functions s (simple_quiet s h))
      (pattern_fits (Labelled functions) (all_join (IsLabelled functions)) tt (one_labelled functions)) functions
      (λ w k reach g pre down args. (
        record { params = refl; result = refl },
        (record { params = refl; result = refl }, (tt, tt)),
      ))

  pub demanded_labelled : (f : Function) (c : CheckId) (ms : List Move)
      → Labelled functions (demanded functions f c ms).steps
  demanded_labelled =
      demanded_closed (Labelled functions) (all_join (IsLabelled functions)) tt
      (λ s h. one_labelled functions s (simple_quiet s h))
      (pattern_fits (Labelled functions) (all_join (IsLabelled functions)) tt (one_labelled functions)) functions
      (λ w k reach g pre down args. (
        record { params = refl; result = refl },
        (record { params = refl; result = refl }, (tt, tt)),
      ))
