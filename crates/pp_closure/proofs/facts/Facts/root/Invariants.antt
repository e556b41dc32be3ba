use Rattle.std.proofs.Common.{◌≡◌}
use Rattle.pp_steps.specs.Meaning.{Values}
use Rattle.pp_closure.specs.Facts.{Holds}
use Rattle.pp_closure.proofs.facts.Facts.root.Given as goal

abbrev pub invariant-loop : goal.invariant-loop
invariant-loop l = (ρ : Values) → Holds ρ l.self → ρ l.root ≡ ρ l.number
