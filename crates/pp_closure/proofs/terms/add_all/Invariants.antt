use Rattle.std.proofs.Common.{take}
use Rattle.pp_steps.specs.Meaning.{Values}
use Rattle.pp_closure.specs.Sums.{AlikeWords, total}
use Rattle.pp_closure.proofs.terms.add_all.Given as goal
use lib.IntN.{◌+ℤ◌}

abbrev pub invariant-loop-term : goal.invariant-loop-term
invariant-loop-term l =
    (ρ : Values) → AlikeWords (total ρ l.terms) (total ρ l.fn.terms +ℤ total ρ (take l.term-index l.more))
