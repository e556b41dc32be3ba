use Rattle.pp_word.specs.Word.{word_and, word_or, word_xor, word_not}
use Rattle.pp_word.proofs.Digits.{each_and, each_or, each_xor, each_not, and_fits, or_fits, xor_fits, not_fits}
use Rattle.pp_word.proofs.Digits.{same_from_bits}
use Rattle.pp_word.proofs.bits.bit_law.Goals as goal

pub returns-clause-each_and : goal.returns-clause-each_and
unfolding word_and
returns-clause-each_and c = λ w a b i f g. each_and w a b i f

pub returns-clause-each_or : goal.returns-clause-each_or
unfolding word_or
returns-clause-each_or c = each_or

pub returns-clause-each_xor : goal.returns-clause-each_xor
unfolding word_xor
returns-clause-each_xor c = each_xor

pub returns-clause-each_not : goal.returns-clause-each_not
unfolding word_not
returns-clause-each_not c = each_not

pub returns-clause-and_fits : goal.returns-clause-and_fits
unfolding word_and
returns-clause-and_fits c = λ w a b f g. and_fits w a b f

pub returns-clause-or_fits : goal.returns-clause-or_fits
unfolding word_or
returns-clause-or_fits c = or_fits

pub returns-clause-xor_fits : goal.returns-clause-xor_fits
unfolding word_xor
returns-clause-xor_fits c = xor_fits

pub returns-clause-not_fits : goal.returns-clause-not_fits
unfolding word_not
returns-clause-not_fits c = not_fits

pub returns-clause-same_bits : goal.returns-clause-same_bits
returns-clause-same_bits c = same_from_bits
