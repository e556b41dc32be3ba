-- Sums, differences, products and negatives of words, from the bits.
use Rattle.std.proofs.Common.{◌≡◌, ℕ, ◌+◌, ◌-◌, ◌*◌, ◌%◌, ◌^◌, ◌<◌, suc, ⊎_elim, sym, ap, ◌∙◌, arith}
use Rattle.std.specs.Int.{Width, int_wrap, cast_signed}
use Rattle.std.proofs.lemmas.Int.{ints, wrapping_add-bits, wrapping_sub-bits, wrapping_mul-bits, to_z_pos}
use Rattle.std.proofs.lemmas.Nat.{pow_pos}
use Rattle.std.proofs.lemmas.Bool.{cases_lt}
use Rattle.pp_wordlaws.proofs.Readings.{OfBits, read_high}
use Rattle.pp_word.specs.Word.{word_add, word_sub, word_mul, word_neg, word_not}
use Rattle.pp_word.proofs.Ranges.{halves}
use lib.IntN.{ℤ, pos, negsuc, ◌-ℤ◌, neg_ℤ}
use mir.Val.{bits, hbits}

pub sum_of_bits : (w : Width) → OfBits w (λ n a b. (a + b) % 2 ^ n) (word_add w)
unfolding word_add
sum_of_bits w = record { reads = wrapping_add-bits w }

pub difference_of_bits : (w : Width) → OfBits w (λ n a b. (a + (2 ^ n - b)) % 2 ^ n) (word_sub w)
unfolding word_sub
difference_of_bits w = record { reads = wrapping_sub-bits w }

pub product_of_bits : (w : Width) → OfBits w (λ n a b. (a * b) % 2 ^ n) (word_mul w)
unfolding word_mul
product_of_bits w = record { reads = wrapping_mul-bits w }

neg_is : (z : ℤ) → pos 0 -ℤ z ≡ neg_ℤ z
neg_is z = omega (arith, ints)

pub negative_of_bits : (w : Width) → OfBits w (λ n a b. (2 ^ n - a) % 2 ^ n) (λ a b. word_neg w a)
unfolding word_neg
negative_of_bits w = record {
  reads = λ a b p q.
      ap (λ n. cast_signed w (n % 2 ^ bits w)) (omega arith)
      ∙ wrapping_sub-bits w 0 a (pow_pos (bits w)) p
      ∙ ap (λ z. int_wrap w (z -ℤ cast_signed w a)) (to_z_pos w 0 (pow_pos (hbits w)))
      ∙ ap (int_wrap w) (neg_is (cast_signed w a));
}

complement : (w : Width) (a r : ℕ) → a < 2 ^ bits w → r + a + 1 ≡ 2 ^ bits w
    → cast_signed w r ≡ neg_ℤ (cast_signed w a) -ℤ pos 1
complement w a r p e = ⊎_elim
    (λ low.
    let turned : negsuc (2 ^ bits w - suc r) ≡ neg_ℤ (pos a) -ℤ pos 1 = omega (arith, ints) in
    read_high w r (omega (arith, halves w)) ∙ turned ∙ ap (λ z. neg_ℤ z -ℤ pos 1) (sym (to_z_pos w a low)))
    (λ high.
    let turned : pos r ≡ neg_ℤ (negsuc (2 ^ bits w - suc a)) -ℤ pos 1 = omega (arith, ints) in
    to_z_pos w r (omega (arith, halves w)) ∙ turned ∙ ap (λ z. neg_ℤ z -ℤ pos 1) (sym (read_high w a high)))
    (cases_lt a (2 ^ hbits w))

pub complement_of_bits : (w : Width) → OfBits w (λ n a b. 2 ^ n - 1 - a) (λ a b. word_not w a)
unfolding word_not
complement_of_bits w = record { reads = λ a b p q. complement w a (2 ^ bits w - 1 - a) p (omega arith) }
