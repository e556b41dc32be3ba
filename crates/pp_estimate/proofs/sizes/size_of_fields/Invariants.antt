use Rattle.std.proofs.Common.{◌≡◌, map, take}
use Rattle.pp_list.specs.Joined.{joined}
use Rattle.pp_prog.specs.Sizes.{sorts_in_ctor}
use Rattle.pp_estimate.specs.Bounds.{sizes}
use Rattle.pp_estimate.proofs.sizes.size_of_fields.Given as goal

abbrev pub invariant-loop-c : goal.invariant-loop-c
invariant-loop-c l = l.total ≡ sizes l.types l.height (joined (map sorts_in_ctor (take l.c-index l.ctors)))
