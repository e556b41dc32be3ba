use Rattle.std.proofs.Common.{◌≡◌, map, string_bytes, take}
use Rattle.pp_words.specs.Told.{texts}
use Rattle.pureproof.proofs.slices.Given as goal

abbrev pub invariant-loop-word : goal.invariant-loop-word
invariant-loop-word l = texts l.slices.items ≡ map string_bytes (take l.word-index l.words)
