use Rattle.std.proofs.Common.{◌≡◌, take}
use Rattle.pp_refute.specs.LogText.{text_of_log}
use Rattle.pp_refute.proofs.writing.log_text.Given as goal

abbrev pub invariant-loop-lemma : goal.invariant-loop-lemma
invariant-loop-lemma l = l.text.items ≡ text_of_log (take l.lemma-index l.lemma-items)
