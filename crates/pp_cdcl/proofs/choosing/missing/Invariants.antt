use Rattle.std.proofs.Common.{◌≡◌, true, All, take}
use Rattle.pp_clause.specs.Clause.{has}
use Rattle.pp_trail.specs.Trail.{lits}
use Rattle.pp_cdcl.proofs.choosing.missing.Given as goal

abbrev pub invariant-loop-lit : goal.invariant-loop-lit
invariant-loop-lit l = All (λ a. has (lits l.watch.steps) a ≡ true) (take l.lit-index l.assumptions)
