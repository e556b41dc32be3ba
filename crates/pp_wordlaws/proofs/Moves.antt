-- Shifts of words, from the bits.
use Rattle.std.proofs.Common.{◌≡◌, ℕ, suc, ◌+◌, ◌-◌, ◌*◌, ◌/◌, ◌%◌, ◌^◌, ◌<◌, ◌≤◌, ⊎_elim, sym, ap, ◌∙◌, arith}
use Rattle.std.specs.Int.{Width, int_wrap, cast_signed, cast_unsigned}
use Rattle.std.proofs.Math.Nat.{pow-le-pow_right, add-mul-mod_self_left}
use Rattle.std.proofs.lemmas.Nat.{pow-add}
use Rattle.std.proofs.lemmas.Int.{ints, of_z-to_z, to_z_pos}
use Rattle.std.proofs.lemmas.Bool.{cases_lt}
use Rattle.pp_word.specs.Word.{shift_distance, word_shl, word_ushr}
use Rattle.pp_word.proofs.Wraps.{wrap_from}
use Rattle.pp_wordlaws.proofs.Readings.{read_high}
use lib.IntN.{ℤ, pos, negsuc, ◌+ℤ◌, ◌*ℤ◌}
use mir.Val.{bits, hbits}

-- the lowest k digits of a word, of this width or of a shorter one, are the distance at a width of 2^k bits
pub distance_of_bits : (w v : Width) (k b : ℕ) → 2 ^ k ≡ bits w → k ≤ bits v → bits v ≤ bits w → b < 2 ^ bits v
    → shift_distance w (cast_signed v b) ≡ b % bits w
unfolding shift_distance
distance_of_bits w v k b places some shorter p = ⊎_elim
    (λ low. ap (λ z. cast_unsigned w z % bits w) (to_z_pos v b low))
    (λ high. ap (λ z. cast_unsigned w z % bits w) (read_high v b high) ∙ ap (λ u. u % bits w) read
    ∙ add-mul-mod_self_left b (bits w) more)
    (cases_lt b (2 ^ hbits v))
  where
    more : ℕ
    more = 2 ^ (bits w - k) - 2 ^ (bits v - k)

    multiple : (n : ℕ) → k ≤ n → 2 ^ n ≡ bits w * 2 ^ (n - k)
    multiple n le = ap (λ m. 2 ^ m) (omega arith) ∙ pow-add 2 k (n - k) ∙ ap (λ m. m * 2 ^ (n - k)) places

    longer : 2 ^ bits w ≡ 2 ^ bits v + bits w * more
    longer =
        let less : 2 ^ (bits v - k) ≤ 2 ^ (bits w - k) = pow-le-pow_right (omega arith) (omega arith) in
        let apart : 2 ^ (bits w - k) ≡ 2 ^ (bits v - k) + more = omega arith in
        omega (arith, multiple (bits w) (omega arith), multiple (bits v) some, ap (λ m. bits w * m) apart)

    read : 2 ^ bits w - suc (2 ^ bits v - suc b) ≡ b + bits w * more
    read = omega (arith, longer)

taken : (n a p : ℕ) → a < n → negsuc (n - suc a) *ℤ pos p +ℤ pos (p * n) ≡ pos (a * p)
taken n a p h =
    let whole : a + suc (n - suc a) ≡ n = omega arith in omega (arith, ints, ap (λ k. k * p) whole)

wrap_times : (w : Width) (a p : ℕ) → a < 2 ^ bits w
    → int_wrap w (cast_signed w a *ℤ pos p) ≡ cast_signed w ((a * p) % 2 ^ bits w)
wrap_times w a p h = ⊎_elim
    (λ low. ap (λ z. int_wrap w (z *ℤ pos p)) (to_z_pos w a low)
    ∙ wrap_from w (pos a *ℤ pos p) 0 (a * p) (omega (arith, ints)))
    (λ high. ap (λ z. int_wrap w (z *ℤ pos p)) (read_high w a high)
    ∙ wrap_from w (negsuc (2 ^ bits w - suc a) *ℤ pos p) p (a * p) (taken (2 ^ bits w) a p h))
    (cases_lt a (2 ^ hbits w))

pub left_of_bits : (w : Width) (a k : ℕ) (z : ℤ) → a < 2 ^ bits w → shift_distance w z ≡ k
    → cast_signed w ((a * 2 ^ k) % 2 ^ bits w) ≡ word_shl w (cast_signed w a) z
unfolding word_shl
left_of_bits w a k z p d =
    sym (wrap_times w a (2 ^ k) p) ∙ ap (λ j. int_wrap w (cast_signed w a *ℤ pos (2 ^ j))) (sym d)

pub unsigned_right_of_bits : (w : Width) (a k : ℕ) (z : ℤ) → a < 2 ^ bits w → shift_distance w z ≡ k
    → cast_signed w (a / 2 ^ k) ≡ word_ushr w (cast_signed w a) z
unfolding word_ushr
unsigned_right_of_bits w a k z p d = λ i. cast_signed w (sym (of_z-to_z w a p) i / 2 ^ sym d i)
