use Rattle.std.proofs.Common.{◌≡◌, take}
use Rattle.pp_generic.proofs.sort.+copy_within.Given as goal

abbrev pub invariant-loop-arg : goal.invariant-loop-arg
invariant-loop-arg l = l.done ≡ take l.arg-index l.args
