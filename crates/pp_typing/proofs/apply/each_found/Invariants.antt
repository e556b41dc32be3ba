use Rattle.std.proofs.Common.{◌≡◌, Some, map, take}
use Rattle.pp_typing.proofs.apply.each_found.Given as goal

abbrev pub invariant-loop-sort : goal.invariant-loop-sort
invariant-loop-sort l = l.found ≡ map Some (take l.sort-index l.sort-items)
