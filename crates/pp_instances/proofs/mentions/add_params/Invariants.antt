use Rattle.std.proofs.Common.{◌≡◌, ◌++◌, map, take}
use Rattle.pp_list.specs.Joined.{joined}
use Rattle.pp_instances.specs.Uses.{param_types}
use Rattle.pp_instances.proofs.mentions.add_params.Given as goal

abbrev pub invariant-loop-param : goal.invariant-loop-param
invariant-loop-param l = l.found ≡ l.initial.found ++ joined (map param_types (take l.param-index l.params))
