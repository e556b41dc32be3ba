use Rattle.std.proofs.Common.{◌≡◌, take}
use Rattle.pp_generic.proofs.sort.copies.Given as goal

abbrev pub invariant-loop-sort : goal.invariant-loop-sort
invariant-loop-sort l = l.done ≡ take l.sort-index l.sorts
