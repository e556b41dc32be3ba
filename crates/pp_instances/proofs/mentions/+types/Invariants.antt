use Rattle.std.proofs.Common.{◌≡◌, ◌++◌, take}
use Rattle.pp_instances.specs.Uses.{types_of}
use Rattle.pp_instances.proofs.mentions.+types.Given as goal

abbrev pub invariant-add_all_types-loop-sort : goal.invariant-add_all_types-loop-sort
invariant-add_all_types-loop-sort l = l.found ≡ l.initial.found ++ types_of (take l.sort-index l.sorts)
