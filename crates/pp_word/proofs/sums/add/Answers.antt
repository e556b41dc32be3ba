use Rattle.std.proofs.lemmas.Int.{wrapping_add_is}
use Rattle.std.specs.Int.{w32}
use Rattle.pp_word.specs.Word.{word_add}
use Rattle.pp_word.proofs.sums.add.Goals as goal

pub returns : goal.returns
unfolding word_add
returns c = wrapping_add_is w32 _ _ c.ranges.a c.ranges.b
