use Rattle.pp_estimate.specs.Bounds.{AreRows}
use Rattle.pp_estimate.proofs.sizes.keep_rows.Given as goal

abbrev pub invariant-loop : goal.invariant-loop
invariant-loop l = AreRows l.types l.rows
