use Rattle.std.proofs.Common.{◌≡◌, take, map}
use Rattle.pp_instances.specs.Uses.{at_args}
use Rattle.pp_instances.proofs.closure.uses_of.Given as goal

abbrev pub invariant-loop-i : goal.invariant-loop-i
invariant-loop-i l = l.used ≡ map (at_args l.member.args) (take l.i l.mentions)
