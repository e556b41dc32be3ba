-- The results of the operators on words are words: they lie in the range of Int.
use Rattle.std.proofs.Common.{◌≡◌, ◌/◌, ◌^◌, ◌<◌, true, arith}
use Rattle.std.specs.Int.{w32, int_wrap, cast_unsigned}
use Rattle.std.proofs.Math.Nat.{div-le_self}
use Rattle.std.proofs.lemmas.Int.{SFits-int_wrap}
use Rattle.pp_word.specs.Word.{word_add, word_sub, word_mul, word_neg, word_div, word_rem, shift_distance, word_shl}
use Rattle.pp_word.specs.Word.{word_shr, word_ushr, word_and, word_or, word_xor, word_not}
use Rattle.pp_word.proofs.Digits.{and_fits, or_fits, xor_fits, not_fits}
use Rattle.pp_word.proofs.Moves.{fits_shr}
use Rattle.pp_word.proofs.Quotients.{fits_remainder}
use Rattle.pp_word.proofs.Ranges.{IsWord-from_fits, IsWord-cast_signed, cast_unsigned_below}
use Rattle.pp_prog.specs.Sorts.{is_int}
use Rattle.pp_eval.proofs.Ranges.{int_from, word_from}
use lib.IntN.{ℤ}

wrapped : (z : ℤ) → is_int (int_wrap w32 z) ≡ true
wrapped z = int_from _ (IsWord-from_fits w32 _ (SFits-int_wrap w32 z))

pub add_int : (a b : ℤ) → is_int (word_add w32 a b) ≡ true
unfolding word_add
add_int a b = wrapped _

pub sub_int : (a b : ℤ) → is_int (word_sub w32 a b) ≡ true
unfolding word_sub
sub_int a b = wrapped _

pub mul_int : (a b : ℤ) → is_int (word_mul w32 a b) ≡ true
unfolding word_mul
mul_int a b = wrapped _

pub neg_int : (a : ℤ) → is_int (word_neg w32 a) ≡ true
unfolding word_neg
neg_int a = wrapped _

pub div_int : (a b : ℤ) → is_int (word_div w32 a b) ≡ true
unfolding word_div
div_int a b = wrapped _

pub rem_int : (a b : ℤ) → is_int a ≡ true → is_int (word_rem w32 a b) ≡ true
unfolding word_rem
rem_int a b h = int_from _ (fits_remainder w32 a b (word_from a h))

pub shl_int : (a b : ℤ) → is_int (word_shl w32 a b) ≡ true
unfolding word_shl
shl_int a b = wrapped _

pub shr_int : (a b : ℤ) → is_int a ≡ true → is_int (word_shr w32 a b) ≡ true
unfolding word_shr
shr_int a b h = int_from _ (fits_shr w32 a (shift_distance w32 b) (word_from a h))

pub ushr_int : (a b : ℤ) → is_int a ≡ true → is_int (word_ushr w32 a b) ≡ true
unfolding word_ushr
ushr_int a b h =
    let u = cast_unsigned w32 a in
    let below : u / 2 ^ shift_distance w32 b < 2 ^ 32 =
    omega (arith, div-le_self u (2 ^ shift_distance w32 b), cast_unsigned_below w32 a (word_from a h)) in
    int_from _ (IsWord-cast_signed w32 (u / 2 ^ shift_distance w32 b) below)

pub and_int : (a b : ℤ) → is_int a ≡ true → is_int (word_and w32 a b) ≡ true
unfolding word_and
and_int a b h = int_from _ (and_fits w32 a b (word_from a h))

pub or_int : (a b : ℤ) → is_int a ≡ true → is_int b ≡ true → is_int (word_or w32 a b) ≡ true
unfolding word_or
or_int a b h k = int_from _ (or_fits w32 a b (word_from a h) (word_from b k))

pub xor_int : (a b : ℤ) → is_int a ≡ true → is_int b ≡ true → is_int (word_xor w32 a b) ≡ true
unfolding word_xor
xor_int a b h k = int_from _ (xor_fits w32 a b (word_from a h) (word_from b k))

pub not_int : (a : ℤ) → is_int a ≡ true → is_int (word_not w32 a) ≡ true
unfolding word_not
not_int a h = int_from _ (not_fits w32 a (word_from a h))
