use Rattle.std.proofs.Common.{◌≡◌, ◌++◌, map, take}
use Rattle.pp_list.specs.Joined.{joined}
use Rattle.pp_instances.specs.Uses.{ctor_mentions}
use Rattle.pp_instances.proofs.mentions.add_root.Given as goal

abbrev pub invariant-loop-ctor : goal.invariant-loop-ctor
invariant-loop-ctor l = l.found ≡ l.initial.found ++ joined (map (ctor_mentions l.r) (take l.ctor-index l.ctors))
