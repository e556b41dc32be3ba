use Rattle.pp_word.specs.Word.{word_add, word_sub, word_mul, word_neg}
use Rattle.pp_word.proofs.Ranges.{IsUnsignedReading-cast_unsigned}
use Rattle.pp_word.proofs.Wraps.{WrapsTo-int_wrap}
use Rattle.pp_word.proofs.sums.wrapping_law.Goals as goal
use lib.IntN.{◌+ℤ◌, ◌-ℤ◌, ◌*ℤ◌, neg_ℤ}

pub returns-clause-sum : goal.returns-clause-sum
unfolding word_add
returns-clause-sum c = λ w a b. WrapsTo-int_wrap w (a +ℤ b)

pub returns-clause-difference : goal.returns-clause-difference
unfolding word_sub
returns-clause-difference c = λ w a b. WrapsTo-int_wrap w (a -ℤ b)

pub returns-clause-product : goal.returns-clause-product
unfolding word_mul
returns-clause-product c = λ w a b. WrapsTo-int_wrap w (a *ℤ b)

pub returns-clause-negation : goal.returns-clause-negation
unfolding word_neg
returns-clause-negation c = λ w a. WrapsTo-int_wrap w (neg_ℤ a)

pub returns-clause-reading : goal.returns-clause-reading
returns-clause-reading c = IsUnsignedReading-cast_unsigned
