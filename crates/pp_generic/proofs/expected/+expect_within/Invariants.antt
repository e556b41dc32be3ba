use Rattle.std.proofs.Common.{◌≡◌, take, map}
use Rattle.pp_generic.specs.Expected.{expect}
use Rattle.pp_generic.proofs.expected.+expect_within.Given as goal

abbrev pub invariant-loop-part : goal.invariant-loop-part
invariant-loop-part l = l.done ≡ map (expect l.found) (take l.part-index l.parts)
