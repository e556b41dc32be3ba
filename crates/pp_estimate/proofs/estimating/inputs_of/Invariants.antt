use Rattle.std.proofs.Common.{◌≡◌, take}
use Rattle.pp_prog.specs.Sorts.{param_sorts}
use Rattle.pp_estimate.specs.Bounds.{AreRows}
use Rattle.pp_estimate.specs.Cut.{cut}
use Rattle.pp_estimate.specs.Estimates.{inputs}
use Rattle.pp_estimate.proofs.estimating.inputs_of.Given as goal

abbrev pub invariant-loop-p : goal.invariant-loop-p
invariant-loop-p l = record {
  total : l.total ≡ cut (inputs l.types l.depth (param_sorts (take l.p-index l.params)));
  rows : AreRows l.types l.rows;
}
