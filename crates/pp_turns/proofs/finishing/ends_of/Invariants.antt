use Rattle.std.proofs.Common.{◌≡◌, ◌++◌, length, reverse}
use Rattle.std.specs.List.{flat_map}
use Rattle.pp_turns.specs.Parts.{ends_in}
use Rattle.pp_turns.proofs.finishing.ends_of.Given as goal

abbrev pub invariant-loop-turn : goal.invariant-loop-turn
invariant-loop-turn l = flat_map ends_in l.fn.turns ≡ flat_map ends_in l.rest ++ reverse l.back

abbrev pub decreases-loop-turn : goal.decreases-loop-turn
decreases-loop-turn l = length l.rest
