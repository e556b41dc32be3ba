use Rattle.std.proofs.Common.{◌≡◌, ◌+◌, length, map, take}
use Rattle.std.specs.Prelude.{sum}
use Rattle.pp_list.specs.Joined.{joined}
use Rattle.pp_prog.specs.Sizes.{sorts_in_ctor, width}
use Rattle.pp_estimate.specs.Cut.{cut}
use Rattle.pp_estimate.proofs.sizes.flat_of.Given as goal

abbrev pub invariant-loop-c : goal.invariant-loop-c
invariant-loop-c l = l.total ≡ cut (length l.ctors + sum
    (map width (joined (map sorts_in_ctor (take l.c-index l.ctors)))))
