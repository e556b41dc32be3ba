use Rattle.std.proofs.lemmas.Int.{wrapping_mul_is}
use Rattle.std.specs.Int.{w32}
use Rattle.pp_word.specs.Word.{word_mul}
use Rattle.pp_word.proofs.sums.mul.Goals as goal

pub returns : goal.returns
unfolding word_mul
returns c = wrapping_mul_is w32 _ _ c.ranges.a c.ranges.b
