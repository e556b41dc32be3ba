use Rattle.std.proofs.Common.{◌≡◌, take}
use Rattle.pp_bounded_merge.proofs.merge.copies.Given as goal

abbrev pub invariant-loop-alternative : goal.invariant-loop-alternative
invariant-loop-alternative l = l.all ≡ take l.alternative-index l.alternatives
