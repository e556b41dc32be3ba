use Rattle.std.proofs.Common.{All}
use Rattle.pp_closure.specs.Facts.{Holds}
use Rattle.pp_closure.specs.Valuation.{IsTrueIn, Valuation}
use Rattle.pp_closure.proofs.refuting.supposed_facts.Given as goal

abbrev pub invariant-loop-number : goal.invariant-loop-number
invariant-loop-number l =
    (v : Valuation l.all) → IsTrueIn v l.fails → All (IsTrueIn v) l.supposed → Holds v.values l.facts
