use Rattle.std.proofs.Common.{◌≡◌, drop}
use Rattle.pp_tokens.specs.Words.{spells}
use Rattle.pp_tokens.proofs.words.spells.Given as goal

abbrev pub invariant-loop-i : goal.invariant-loop-i
invariant-loop-i l = spells (drop l.i l.cs) (drop l.i l.bytes) ≡ spells l.cs l.bytes
