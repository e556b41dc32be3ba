use Rattle.std.proofs.Common.{◌≡◌, take}
use Rattle.pp_estimate.specs.Bounds.{sizes}
use Rattle.pp_estimate.proofs.sizes.size_of_all.Given as goal

abbrev pub invariant-loop-s : goal.invariant-loop-s
invariant-loop-s l = l.total ≡ sizes l.types l.height (take l.s-index l.sorts)
