use Rattle.std.proofs.Common.{◌≡◌, map, take}
use Rattle.std.specs.Prelude.{sum}
use Rattle.pp_prog.specs.Sizes.{width}
use Rattle.pp_estimate.specs.Cut.{cut}
use Rattle.pp_estimate.proofs.sizes.widths_of.Given as goal

abbrev pub invariant-loop-s : goal.invariant-loop-s
invariant-loop-s l = l.total ≡ cut (sum (map width (take l.s-index l.sorts)))
