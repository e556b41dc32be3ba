use Rattle.std.proofs.Common.{◌≡◌, drop}
use Rattle.pp_generic.specs.Expected.{every, every_from}
use Rattle.pp_generic.proofs.found.all_found.Given as goal

abbrev pub invariant-loop-sort : goal.invariant-loop-sort
invariant-loop-sort l = every l.found ≡ every_from l.done (drop l.sort-index l.found)
