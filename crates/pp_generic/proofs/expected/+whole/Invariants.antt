use Rattle.std.proofs.Common.{◌≡◌, drop, map}
use Rattle.pp_generic.specs.Expected.{whole, every, every_from}
use Rattle.pp_generic.proofs.expected.+whole.Given as goal

abbrev pub invariant-loop-part : goal.invariant-loop-part
invariant-loop-part l = every (map whole l.parts) ≡ every_from l.done (map whole (drop l.part-index l.parts))
