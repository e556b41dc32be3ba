use Rattle.std.proofs.Common.{◌≡◌, take, vec_len}
use Rattle.pp_trail.specs.Trail.{lits}
use Rattle.pp_cdcl.specs.Reading.{Reads}
use Rattle.pp_cdcl.proofs.choosing.assignment.Given as goal

abbrev pub invariant-loop-step : goal.invariant-loop-step
invariant-loop-step l = record {
  every : vec_len l.values ≡ l.watch.vars;
  reads : Reads l.values.items
      (lits (take l.step-index l.watch.steps));
}
