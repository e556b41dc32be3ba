-- What follows of estimates. Source: own.
use Rattle.std.specs.Prelude.{◌≡◌, ◌<◌, ◌≤◌, ℕ, suc, List, Some, slice_get}
use Rattle.pp_prog.specs.declared.check.Check.{Check}
use Rattle.pp_prog.specs.declared.expr.Function.{Function}
use Rattle.pp_prog.specs.declared.types.TypeTable.{TypeTable}
use Rattle.pp_estimate.specs.Cut.{top}
use Rattle.pp_estimate.specs.Estimates.{estimate, single, sum_below}

-- below the greatest number of 64 bits the estimate of a check of f is the sum of the rounds up to its own
abbrev pub SumsRounds : Type 0
SumsRounds =
    (types : TypeTable) (functions : List Function) (checks : List Check) (c n d : ℕ) (check : Check) (f : Function)
    → slice_get checks c ≡ Some check → slice_get functions check.function.0 ≡ Some f
    → estimate types functions checks c n d < top
    → estimate types functions checks c n d ≡ sum_below (suc n) (λ r. single types functions f r d)

-- a later round is estimated at no less
abbrev pub GrowsWithRounds : Type 0
GrowsWithRounds =
    (types : TypeTable) (functions : List Function) (checks : List Check) (c n m d : ℕ) → n ≤ m
    → estimate types functions checks c n d ≤ estimate types functions checks c m d

-- with higher arguments a round is estimated at no less; so at depth 1 at no more than at any other
abbrev pub GrowsWithDepth : Type 0
GrowsWithDepth =
    (types : TypeTable) (functions : List Function) (checks : List Check) (c n d e : ℕ) → d ≤ e
    → estimate types functions checks c n d ≤ estimate types functions checks c n e
