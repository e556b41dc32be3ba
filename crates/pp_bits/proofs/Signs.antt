-- The integers that numbers stand for in two's complement.
use Rattle.std.proofs.Common.{◌≡◌, ℕ, suc, ◌+◌, ◌-◌, ◌^◌, ◌<◌, ◌≤◌, nat_lt, Bool, true, false, if◌then◌else◌, refl, ap}
use Rattle.std.proofs.Common.{◌∙◌, arith}
use Rattle.std.specs.Prelude.{pos, negsuc, neg_ℤ}
use Rattle.std.specs.Int.{Width, w8, w16, w32, w64, w128}
use mir.Val.{bits, hbits}
use Rattle.std.proofs.lemmas.Bool.{lt-ltb, le-ltb}
use Rattle.pp_bits.specs.Number.{signed_of}
use Rattle.pp_bits.specs.Laws.{SignedByCast}

-- a number that is not 0, negated
negative : (k m : ℕ) → k ≡ suc m → neg_ℤ (pos k) ≡ negsuc m
negative k m e = ap (λ (n : ℕ). neg_ℤ (pos n)) e

-- without the sign's digit
pub signed_of-low : (n v m : ℕ) → m < 2 ^ (n - 1) → v ≡ m → signed_of n v ≡ pos m
signed_of-low n v m h e =
    ap (λ (b : Bool). if b then pos v else neg_ℤ (pos (2 ^ n - v))) (lt-ltb v (2 ^ (n - 1)) (omega arith)) ∙ ap pos e

-- and with it
pub signed_of-high : (n v m : ℕ) → 2 ^ (n - 1) ≤ v → v + m + 1 ≡ 2 ^ n → signed_of n v ≡ negsuc m
signed_of-high n v m h e =
    ap (λ (b : Bool). if b then pos v else neg_ℤ (pos (2 ^ n - v))) (le-ltb v (2 ^ (n - 1)) h)
    ∙ negative (2 ^ n - v) m (omega arith)

-- ---- at the widths of Rust's integers

pub one_less : (w : Width) → bits w - 1 ≡ hbits w
one_less w8 = refl
one_less w16 = refl
one_less w32 = refl
one_less w64 = refl
one_less w128 = refl

pub signed_by_cast : SignedByCast
signed_by_cast w v h =
    ap (λ (k : ℕ). if nat_lt v (2 ^ k) then pos v else neg_ℤ (pos (2 ^ bits w - v))) (one_less w)
    ∙ chosen (nat_lt v (2 ^ hbits w)) (2 ^ bits w) v h
  where
    chosen : (b : Bool) (q n : ℕ) → n < q → (if b then pos n else neg_ℤ (pos (q - n))) ≡
        (if b then pos n else negsuc (q - suc n))
    chosen true q n below = refl
    chosen false q n below = negative (q - n) (q - suc n) (omega arith)
