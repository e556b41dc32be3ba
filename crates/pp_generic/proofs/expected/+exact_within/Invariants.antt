use Rattle.std.proofs.Common.{◌≡◌, take, map}
use Rattle.pp_generic.specs.Expected.{exact}
use Rattle.pp_generic.proofs.expected.+exact_within.Given as goal

abbrev pub invariant-loop-part : goal.invariant-loop-part
invariant-loop-part l = l.done ≡ map exact (take l.part-index l.parts)
