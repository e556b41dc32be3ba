use Rattle.std.proofs.lemmas.Int.{wrapping_sub_is}
use Rattle.std.specs.Int.{w32}
use Rattle.pp_word.specs.Word.{word_sub}
use Rattle.pp_word.proofs.sums.sub.Goals as goal

pub returns : goal.returns
unfolding word_sub
returns c = wrapping_sub_is w32 _ _ c.ranges.a c.ranges.b
