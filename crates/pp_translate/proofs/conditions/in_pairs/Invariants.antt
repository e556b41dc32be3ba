use Rattle.std.proofs.Common.{◌≡◌, ◌++◌, length, reverse}
use Rattle.pp_translation.specs.Functions.{in_pairs}
use Rattle.pp_translate.proofs.conditions.in_pairs.Given as goal

abbrev pub invariant-loop-a : goal.invariant-loop-a
invariant-loop-a l = in_pairs l.fn.conditions ≡ l.done ++ in_pairs (reverse l.rest)

abbrev pub decreases-loop-a : goal.decreases-loop-a
decreases-loop-a l = length l.rest
