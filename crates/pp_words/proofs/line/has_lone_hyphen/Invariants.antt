use Rattle.std.proofs.Common.{◌≡◌, drop}
use Rattle.pp_words.specs.Command.{has_lone_hyphen}
use Rattle.pp_words.specs.Told.{texts}
use Rattle.pp_words.proofs.line.has_lone_hyphen.Given as goal

abbrev pub invariant-loop-word : goal.invariant-loop-word
invariant-loop-word l = has_lone_hyphen (texts l.words) ≡ has_lone_hyphen (texts (drop l.word-index l.words))
