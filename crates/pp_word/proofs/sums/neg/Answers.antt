use Rattle.std.proofs.Common.{rules}
use Rattle.std.proofs.lemmas.Int.{wraps}
use Rattle.pp_word.specs.Word.{word_neg}
use Rattle.pp_word.proofs.sums.neg.Goals as goal

pub returns : goal.returns
unfolding word_neg
returns c = search (rules, wraps)
