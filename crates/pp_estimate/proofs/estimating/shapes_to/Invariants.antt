use Rattle.std.proofs.Common.{◌≡◌, take}
use Rattle.pp_prog.specs.Sorts.{param_sorts}
use Rattle.pp_estimate.specs.Estimates.{shapes_to}
use Rattle.pp_estimate.proofs.estimating.shapes_to.Given as goal

abbrev pub invariant-loop-p : goal.invariant-loop-p
invariant-loop-p l = l.shapes ≡ shapes_to l.depth (param_sorts (take l.p-index l.params))
