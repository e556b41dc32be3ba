use Rattle.std.proofs.Common.{◌≡◌, false}
use Rattle.pp_closure.specs.Facts.{Holds}
use Rattle.pp_closure.specs.Valuation.{Valuation}
use Rattle.pp_closure.proofs.refuting.+by_cases.Given as goal

abbrev pub decreases-by_cases : goal.decreases-by_cases
decreases-by_cases l = l.depth

abbrev pub invariant-loop : goal.invariant-loop
invariant-loop l = l.missed ≡ false → (v : Valuation l.all) → Holds v.values l.fn.facts → Holds v.values l.facts
