-- The signed reading of bits: its sign, its magnitude, and when two are one.
use Rattle.std.proofs.Common.{◌≡◌, ℕ, suc, ◌-◌, ◌%◌, ◌^◌, ◌<◌, ◌≤◌, ⊎_elim, Bool, true, false, cond, leb, sym, ap, ◌∙◌}
use Rattle.std.proofs.Common.{arith}
use Rattle.std.specs.Int.{Width, int_wrap, cast_signed, cast_unsigned}
use Rattle.std.specs.Int.RustNames.{unsigned_abs}
use Rattle.std.proofs.Math.Nat.{mod-eq_of_lt}
use Rattle.std.proofs.lemmas.Nat.{pow_pos}
use Rattle.std.proofs.lemmas.Int.{ints, to_z_pos, of_z-to_z}
use Rattle.std.proofs.lemmas.Bool.{cases_lt, le-ltb, le-leb, lt-leb, leb-true, leb-false}
use Rattle.pp_word.proofs.Wraps.{wrap_from}
use lib.IntN.{ℤ, pos, negsuc, neg_ℤ}
use Rattle.pp_word.specs.Wrapping.{IsWord}
use Rattle.pp_word.proofs.Ranges.{halves}
use mir.Val.{bits, hbits, sel}

-- the operation g makes of two words what f makes of the numbers of their n bits
pub record OfBits (w : Width) (f : ℕ → ℕ → ℕ → ℕ) (g : ℤ → ℤ → ℤ) : Type 0 where
  pub reads : (a b : ℕ) → a < 2 ^ bits w → b < 2 ^ bits w
      → cast_signed w (f (bits w) a b) ≡ g (cast_signed w a) (cast_signed w b)

-- a number not below half of the words is read as a negative number
pub read_high : (w : Width) (u : ℕ) → 2 ^ hbits w ≤ u → cast_signed w u ≡ negsuc (2 ^ bits w - suc u)
read_high w u h = ap (λ t. sel t (pos u) (negsuc (2 ^ bits w - suc u))) (le-ltb u (2 ^ hbits w) h)

-- bits that are read as one word are one number
pub same_reading : (w : Width) (m n : ℕ) → m < 2 ^ bits w → n < 2 ^ bits w → cast_signed w m ≡ cast_signed w n → m ≡ n
same_reading w m n p q e = sym (of_z-to_z w m p) ∙ ap (cast_unsigned w) e ∙ of_z-to_z w n q

-- whether a number is negative
abbrev pub is_negative : ℤ → Bool
is_negative (pos n) = false
is_negative (negsuc n) = true

-- the number as such, or its negative
abbrev pub signed : Bool → ℕ → ℤ
signed false n = pos n
signed true n = neg_ℤ (pos n)

-- the top bit is the sign
pub is_negative-cast_signed : (w : Width) (u : ℕ) → is_negative (cast_signed w u) ≡ leb (2 ^ hbits w) u
is_negative-cast_signed w u = ⊎_elim
    (λ low. ap is_negative (to_z_pos w u low) ∙ sym (lt-leb (2 ^ hbits w) u low))
    (λ high. ap is_negative (read_high w u high) ∙ sym (le-leb (2 ^ hbits w) u high))
    (cases_lt u (2 ^ hbits w))

-- the bits of the magnitude: those of the negative, where the sign is set
pub unsigned_abs-cast_signed : (w : Width) (u : ℕ) (negative : Bool) → u < 2 ^ bits w → negative ≡ leb (2 ^ hbits w) u
    → unsigned_abs (cast_signed w u) ≡ cond negative ((2 ^ bits w - u) % 2 ^ bits w) u
unsigned_abs-cast_signed w u false h e = ap unsigned_abs (to_z_pos w u (leb-false (2 ^ hbits w) u (sym e)))
unsigned_abs-cast_signed w u true h e =
    let high : 2 ^ hbits w ≤ u = leb-true (2 ^ hbits w) u (sym e) in
    let some : 2 ^ bits w - u < 2 ^ bits w = omega (arith, pow_pos (hbits w)) in
    let same : suc (2 ^ bits w - suc u) ≡ 2 ^ bits w - u = omega arith in
    ap unsigned_abs (read_high w u high) ∙ same ∙ sym (mod-eq_of_lt some)

-- the bits of a number with a sign, wrapped
pub wrap_signed : (w : Width) (negative : Bool) (q : ℕ) → q < 2 ^ bits w
    → cast_signed w (cond negative ((2 ^ bits w - q) % 2 ^ bits w) q) ≡ int_wrap w (signed negative q)
wrap_signed w false q h =
    ap (cast_signed w) (sym (mod-eq_of_lt h)) ∙ sym (wrap_from w (pos q) 0 q (omega (arith, ints)))
wrap_signed w true q h = sym (wrap_from w (neg_ℤ (pos q)) 1 (2 ^ bits w - q) (omega (arith, ints)))

pub magnitude_below : (w : Width) (z : ℤ) → IsWord w z → unsigned_abs z < 2 ^ bits w
magnitude_below w (pos n) h = omega (arith, ints, halves w)
magnitude_below w (negsuc n) h = omega (arith, ints, halves w, pow_pos (hbits w))
