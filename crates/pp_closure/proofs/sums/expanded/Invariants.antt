use Rattle.pp_closure.specs.Facts.{Holds}
use Rattle.pp_closure.specs.Sums.{AlikeWords, total}
use Rattle.pp_closure.specs.Valuation.{Valuation}
use Rattle.pp_closure.proofs.sums.expanded.Given as goal
use lib.IntN.{◌+ℤ◌}

abbrev pub invariant-loop : goal.invariant-loop
invariant-loop l =
    (v : Valuation l.all) → Holds v.values l.facts
    → AlikeWords (total v.values l.left +ℤ total v.values l.done) (total v.values l.fn.terms)
