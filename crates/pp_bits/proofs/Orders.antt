-- Comparisons of numbers with one digit more, from those of their lower digits.
use Rattle.std.proofs.Common.{◌≡◌, ℕ, ◌+◌, ◌-◌, ◌*◌, ◌^◌, ◌<◌, ◌==◌, ◌&&◌, nat_lt, Bool, true, false, not}
use Rattle.std.proofs.Common.{sym, ◌∙◌, arith}
use Rattle.std.specs.Int.RustNames.{int_lt}
use Rattle.std.proofs.lemmas.Bool.Decides.{nat_tests}
use Rattle.pp_gate.specs.Gate.{xor_of, majority_of}
use Rattle.pp_bits.specs.Number.{bit, signed_of}
use Rattle.pp_bits.proofs.Numbers.{TopRepeated}
use Rattle.pp_bits.proofs.Signs.{signed_of-low, signed_of-high}

-- the digits x and y stand at weight p
pub equal_turn : (p a b left right : ℕ) (x y lower : Bool) → a < p → b < p → left ≡ a + p * bit x
    → right ≡ b + p * bit y → lower ≡ (a == b) → (lower && not (xor_of x y)) ≡ (left == right)
equal_turn p a b left right x y lower ha hb el er e = rw (el, er, e) (grind (arith, nat_tests))

pub less_turn : (p a b left right : ℕ) (x y lower : Bool) → a < p → b < p → left ≡ a + p * bit x
    → right ≡ b + p * bit y → lower ≡ nat_lt a b → majority_of (not x) y lower ≡ nat_lt left right
less_turn p a b left right x y lower ha hb el er e = rw (el, er, e) (grind (arith, nat_tests))

-- the highest digit of each once more changes no comparison
pub equal_repeated : (p a b left right : ℕ) → TopRepeated p a left → TopRepeated p b right
    → (a == b) ≡ (left == right)
equal_repeated p a b left right r t = grind (arith, nat_tests)

pub less_repeated : (p a b left right : ℕ) → TopRepeated p a left → TopRepeated p b right
    → nat_lt a b ≡ nat_lt left right
less_repeated p a b left right r t = grind (arith, nat_tests)

test_swapped : (a b c d : ℕ) → a + c ≡ b + d → nat_lt a b ≡ nat_lt d c
test_swapped a b c d e = grind (arith, nat_tests)

-- in two's complement the sign counts -p, and the digits below it count less than p
pub less_signed_turn : (n a b left right : ℕ) (x y lower : Bool) → 2 ^ n ≡ 2 * 2 ^ (n - 1) → a < 2 ^ (n - 1)
    → b < 2 ^ (n - 1) → left ≡ a + 2 ^ (n - 1) * bit x → right ≡ b + 2 ^ (n - 1) * bit y → lower ≡ nat_lt a b
    → majority_of (not y) x lower ≡ int_lt (signed_of n left) (signed_of n right)
less_signed_turn n a b left right true true lower twice ha hb el er e =
    let low_a = 2 ^ (n - 1) - 1 - a in
    let low_b = 2 ^ (n - 1) - 1 - b in
    e ∙ test_swapped a b low_a low_b (omega arith)
    ∙ sym (λ j. int_lt (signed_of-high n left low_a (omega arith) (omega arith) j)
    (signed_of-high n right low_b (omega arith) (omega arith) j))
less_signed_turn n a b left right true false lower twice ha hb el er e =
    sym (λ j. int_lt (signed_of-high n left (2 ^ (n - 1) - 1 - a) (omega arith) (omega arith) j)
    (signed_of-low n right b hb (omega arith) j))
less_signed_turn n a b left right false true lower twice ha hb el er e =
    sym (λ j. int_lt (signed_of-low n left a ha (omega arith) j)
    (signed_of-high n right (2 ^ (n - 1) - 1 - b) (omega arith) (omega arith) j))
less_signed_turn n a b left right false false lower twice ha hb el er e =
    e ∙ sym (λ j. int_lt (signed_of-low n left a ha (omega arith) j) (signed_of-low n right b hb (omega arith) j))
