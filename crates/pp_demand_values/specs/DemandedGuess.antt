-- Values of a guess run that fails a check, whose calls are unfolded on demand. Source: own.
use Rattle.std.specs.Prelude.{◌≡◌, ℕ, List, Some, slice_get}
use Rattle.pp_prog.specs.declared.expr.Function.{Function}
use Rattle.pp_prog.specs.declared.id.CheckId.{CheckId}
use Rattle.pp_prog.specs.declared.program.Program.{Program}
use Rattle.pp_prog.specs.Sorts.{param_sorts}
use Rattle.pp_induction.specs.Ends.{GuessFails}
use Rattle.pp_guess_steps.specs.Laws.{HaveGuessSorts}
use Rattle.pp_demand_steps.specs.Laws.{IsDemandedGuess}
use Rattle.pp_demand_steps.specs.Moves.{AreMoves, Move, demanded}

-- Where some guess run of round n fails the check there are values that say so, for each list of moves of calls that
-- wait less than n.
abbrev pub DemandedGuessHasValues : Type 0
DemandedGuessHasValues =
    (p : Program) (i : ℕ) (f : Function) → slice_get p.functions i ≡ Some f → (check : CheckId) (n : ℕ)
    → GuessFails p i check n → (ms : List Move) → AreMoves p.functions f check n ms
    → (run : HaveGuessSorts p.types (demanded p.functions f check ms) (param_sorts f.params))
    → ∥ IsDemandedGuess p f check ms run.sorts ∥₁
