use Rattle.std.proofs.Common.{length}
use Rattle.pp_translate.proofs.conditions.+as_one.Given as goal

abbrev pub decreases-as_one : goal.decreases-as_one
decreases-as_one l = length l.conditions
