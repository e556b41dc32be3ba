use Rattle.pp_word.specs.Word.{shift_distance, word_shl, word_shr, word_ushr}
use Rattle.pp_word.proofs.Moves.{IsDistance-low_bits, IsFloor-int_shr, fits_shr, unsigned_quotient}
use Rattle.pp_word.proofs.Wraps.{WrapsTo-int_wrap}
use Rattle.pp_word.proofs.shifts.shift_law.Goals as goal
use Rattle.std.proofs.Common.{◌^◌}
use lib.IntN.{pos, ◌*ℤ◌}

pub returns-clause-distance : goal.returns-clause-distance
unfolding shift_distance
returns-clause-distance c = λ w b f. IsDistance-low_bits w b f

pub returns-clause-left : goal.returns-clause-left
unfolding word_shl
returns-clause-left c = λ w a b. WrapsTo-int_wrap w (a *ℤ pos (2 ^ shift_distance w b))

pub returns-clause-right : goal.returns-clause-right
unfolding word_shr
returns-clause-right c = λ w a b. IsFloor-int_shr a (shift_distance w b)

pub returns-clause-right_fits : goal.returns-clause-right_fits
unfolding word_shr
returns-clause-right_fits c = λ w a b f. fits_shr w a (shift_distance w b) f

pub returns-clause-unsigned_right : goal.returns-clause-unsigned_right
unfolding word_ushr
returns-clause-unsigned_right c = λ w a b f. unsigned_quotient w a (shift_distance w b) f
