use Rattle.std.proofs.Common.{◌≡◌, ◌+◌, map, take}
use Rattle.std.specs.Prelude.{sum}
use Rattle.pp_prog.specs.Sizes.{width}
use Rattle.pp_prog.specs.Sorts.{param_sorts}
use Rattle.pp_estimate.specs.Cut.{cut}
use Rattle.pp_estimate.proofs.sizes.function_widths.Given as goal

abbrev pub invariant-loop-p : goal.invariant-loop-p
invariant-loop-p l = l.total ≡ cut (sum (map width (param_sorts (take l.p-index l.f.params))) + width l.f.result)
