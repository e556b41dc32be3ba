-- The bits of a word, and what the operations on bits make of each.
use Rattle.std.proofs.Common.{◌≡◌, ℕ, zero, suc, ◌+◌, ◌-◌, ◌%◌, ◌^◌, ◌<◌, min, max, ◌&&◌, ◌||◌, eqb, refl, sym, ap, ◌∙◌}
use Rattle.std.proofs.Common.{arith}
use Rattle.std.specs.Prelude.{not}
use Rattle.std.specs.Int.{Width, cast_signed, cast_unsigned, bit_at, bit_not}
use Rattle.std.specs.Int.RustNames.{bit_and, bit_or, bit_xor}
use Rattle.std.proofs.lemmas.Nat.{and_le_l, or_lt, xor_lt}
use Rattle.std.proofs.lemmas.Nat.Bits.{bit_at_and, bit_at_or, bit_at_xor, bit_at_not, bit_at-lt, same_from_bits_below}
use Rattle.std.proofs.lemmas.Int.{ints, to_z-of_z, of_z-to_z}
use Rattle.pp_word.specs.Wrapping.{IsWord}
use Rattle.pp_word.specs.Bits.{bit_of, differ}
use Rattle.pp_word.proofs.Ranges.{fits_from_IsWord, IsWord-cast_signed, cast_unsigned_below, halves}
use lib.IntN.{ℤ, pos, negsuc, ◌-ℤ◌, neg_ℤ}
use mir.Val.{bits}

-- ---- digits 0 and 1 as truth values

and_digit : (x y : ℕ) → x < 2 → y < 2 → eqb (min x y) 1 ≡ (eqb x 1 && eqb y 1)
and_digit zero zero h k = refl
and_digit zero (suc zero) h k = refl
and_digit (suc zero) zero h k = refl
and_digit (suc zero) (suc zero) h k = refl
and_digit (suc (suc x)) y h k = absurd (omega arith)
and_digit zero (suc (suc y)) h k = absurd (omega arith)
and_digit (suc zero) (suc (suc y)) h k = absurd (omega arith)

or_digit : (x y : ℕ) → x < 2 → y < 2 → eqb (max x y) 1 ≡ (eqb x 1 || eqb y 1)
or_digit zero zero h k = refl
or_digit zero (suc zero) h k = refl
or_digit (suc zero) zero h k = refl
or_digit (suc zero) (suc zero) h k = refl
or_digit (suc (suc x)) y h k = absurd (omega arith)
or_digit zero (suc (suc y)) h k = absurd (omega arith)
or_digit (suc zero) (suc (suc y)) h k = absurd (omega arith)

xor_digit : (x y : ℕ) → x < 2 → y < 2 → eqb ((x + y) % 2) 1 ≡ differ (eqb x 1) (eqb y 1)
xor_digit zero zero h k = refl
xor_digit zero (suc zero) h k = refl
xor_digit (suc zero) zero h k = refl
xor_digit (suc zero) (suc zero) h k = refl
xor_digit (suc (suc x)) y h k = absurd (omega arith)
xor_digit zero (suc (suc y)) h k = absurd (omega arith)
xor_digit (suc zero) (suc (suc y)) h k = absurd (omega arith)

not_digit : (x : ℕ) → x < 2 → eqb (1 - x) 1 ≡ not (eqb x 1)
not_digit zero h = refl
not_digit (suc zero) h = refl
not_digit (suc (suc x)) h = absurd (omega arith)

same_digit : (x y : ℕ) → x < 2 → y < 2 → eqb x 1 ≡ eqb y 1 → x ≡ y
same_digit zero zero h k e = refl
same_digit zero (suc zero) h k e = cc
same_digit (suc zero) zero h k e = cc
same_digit (suc zero) (suc zero) h k e = refl
same_digit (suc (suc x)) y h k e = absurd (omega arith)
same_digit zero (suc (suc y)) h k e = absurd (omega arith)
same_digit (suc zero) (suc (suc y)) h k e = absurd (omega arith)

-- ---- words made of bits

-- bit i of the word that the bits n make is digit i of n
bit_of-cast_signed : (w : Width) (n i : ℕ) → n < 2 ^ bits w → bit_of w (cast_signed w n) i ≡ eqb (bit_at n i) 1
bit_of-cast_signed w n i h = ap (λ m. eqb (bit_at m i) 1) (of_z-to_z w n h)

and_below : (w : Width) (a b : ℤ) → IsWord w a → bit_and (cast_unsigned w a) (cast_unsigned w b) < 2 ^ bits w
and_below w a b f = omega (arith, and_le_l (cast_unsigned w a) (cast_unsigned w b), cast_unsigned_below w a f)

or_below : (w : Width) (a b : ℤ) → IsWord w a → IsWord w b → bit_or (cast_unsigned w a) (cast_unsigned w b) < 2 ^ bits w
or_below w a b f g = or_lt (bits w) (cast_unsigned w a) (cast_unsigned w b) (cast_unsigned_below w a f)
    (cast_unsigned_below w b g)

xor_below : (w : Width) (a b : ℤ) → IsWord w a → IsWord w b
    → bit_xor (cast_unsigned w a) (cast_unsigned w b) < 2 ^ bits w
xor_below w a b f g = xor_lt (bits w) (cast_unsigned w a) (cast_unsigned w b) (cast_unsigned_below w a f)
    (cast_unsigned_below w b g)

pub each_and : (w : Width) (a b : ℤ) (i : ℕ) → IsWord w a
    → bit_of w (cast_signed w (bit_and (cast_unsigned w a) (cast_unsigned w b))) i ≡ (bit_of w a i && bit_of w b i)
each_and w a b i f =
    let m = cast_unsigned w a in
    let n = cast_unsigned w b in
    bit_of-cast_signed w (bit_and m n) i (and_below w a b f)
    ∙ ap (λ d. eqb d 1) (bit_at_and m n i)
    ∙ and_digit (bit_at m i) (bit_at n i) (bit_at-lt m i) (bit_at-lt n i)

pub each_or : (w : Width) (a b : ℤ) (i : ℕ) → IsWord w a → IsWord w b
    → bit_of w (cast_signed w (bit_or (cast_unsigned w a) (cast_unsigned w b))) i ≡ (bit_of w a i || bit_of w b i)
each_or w a b i f g =
    let m = cast_unsigned w a in
    let n = cast_unsigned w b in
    bit_of-cast_signed w (bit_or m n) i (or_below w a b f g)
    ∙ ap (λ d. eqb d 1) (bit_at_or m n i)
    ∙ or_digit (bit_at m i) (bit_at n i) (bit_at-lt m i) (bit_at-lt n i)

pub each_xor : (w : Width) (a b : ℤ) (i : ℕ) → IsWord w a → IsWord w b
    → bit_of w (cast_signed w (bit_xor (cast_unsigned w a) (cast_unsigned w b))) i ≡ differ (bit_of w a i)
    (bit_of w b i)
each_xor w a b i f g =
    let m = cast_unsigned w a in
    let n = cast_unsigned w b in
    bit_of-cast_signed w (bit_xor m n) i (xor_below w a b f g)
    ∙ ap (λ d. eqb d 1) (bit_at_xor m n i)
    ∙ xor_digit (bit_at m i) (bit_at n i) (bit_at-lt m i) (bit_at-lt n i)

-- the bits of -a - 1 are those that a has not
cast_unsigned-complement : (w : Width) (a : ℤ) → IsWord w a
    → cast_unsigned w (neg_ℤ a -ℤ pos 1) ≡ bit_not w (cast_unsigned w a)
cast_unsigned-complement w (pos zero) f = omega arith
cast_unsigned-complement w (pos (suc n)) f = omega arith
cast_unsigned-complement w (negsuc n) f =
    let e : neg_ℤ (negsuc n) -ℤ pos 1 ≡ pos n = omega (arith, ints) in
    ap (cast_unsigned w) e ∙ omega (arith, ints, halves w)

pub each_not : (w : Width) (a : ℤ) (i : ℕ) → IsWord w a → i < bits w
    → bit_of w (neg_ℤ a -ℤ pos 1) i ≡ not (bit_of w a i)
each_not w a i f h =
    let n = cast_unsigned w a in
    ap (λ m. eqb (bit_at m i) 1) (cast_unsigned-complement w a f)
    ∙ ap (λ d. eqb d 1) (bit_at_not w n i (cast_unsigned_below w a f) h)
    ∙ not_digit (bit_at n i) (bit_at-lt n i)

-- ---- the results are words

pub and_fits : (w : Width) (a b : ℤ) → IsWord w a
    → IsWord w (cast_signed w (bit_and (cast_unsigned w a) (cast_unsigned w b)))
and_fits w a b f = IsWord-cast_signed w (bit_and (cast_unsigned w a) (cast_unsigned w b)) (and_below w a b f)

pub or_fits : (w : Width) (a b : ℤ) → IsWord w a → IsWord w b
    → IsWord w (cast_signed w (bit_or (cast_unsigned w a) (cast_unsigned w b)))
or_fits w a b f g = IsWord-cast_signed w (bit_or (cast_unsigned w a) (cast_unsigned w b)) (or_below w a b f g)

pub xor_fits : (w : Width) (a b : ℤ) → IsWord w a → IsWord w b
    → IsWord w (cast_signed w (bit_xor (cast_unsigned w a) (cast_unsigned w b)))
xor_fits w a b f g = IsWord-cast_signed w (bit_xor (cast_unsigned w a) (cast_unsigned w b)) (xor_below w a b f g)

pub not_fits : (w : Width) (a : ℤ) → IsWord w a → IsWord w (neg_ℤ a -ℤ pos 1)
not_fits w a f = (omega (arith, ints), omega (arith, ints))

-- words with the same bits are one word
pub same_from_bits : (w : Width) (a b : ℤ) → IsWord w a → IsWord w b
    → ((i : ℕ) → i < bits w → bit_of w a i ≡ bit_of w b i) → a ≡ b
same_from_bits w a b f g h =
    let m = cast_unsigned w a in
    let n = cast_unsigned w b in
    let same : m ≡ n =
    same_from_bits_below (bits w) m n (cast_unsigned_below w a f) (cast_unsigned_below w b g)
    (λ i k. same_digit (bit_at m i) (bit_at n i) (bit_at-lt m i) (bit_at-lt n i) (h i k)) in
    sym (to_z-of_z w a (fits_from_IsWord w a f)) ∙ ap (cast_signed w) same ∙ to_z-of_z w b (fits_from_IsWord w b g)
