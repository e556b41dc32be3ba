-- What learning from steps leaves. Source: own.
use Rattle.std.specs.Prelude.{List}
use Rattle.pp_steps.specs.declared.step.Step.{Step}
use Rattle.pp_closure.specs.declared.facts.Facts.{Facts}
use Rattle.pp_closure.specs.Facts.{Holds}
use Rattle.pp_closure.specs.Valuation.{Valuation}

-- the new facts hold of all values of the steps of which the old ones do
abbrev pub Keeps : List Step → Facts → Facts → Type 0
Keeps ss old new = (v : Valuation ss) → Holds v.values old → Holds v.values new
