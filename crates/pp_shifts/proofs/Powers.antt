-- Products and remainders by powers of 2.
use Rattle.std.proofs.Common.{◌≡◌, ℕ, ◌+◌, ◌-◌, ◌*◌, ◌/◌, ◌%◌, ◌^◌, ◌≤◌, sym, ap, ◌∙◌, arith}
use Rattle.std.proofs.Math.Nat.{mul_comm, mul_assoc, mul-mod_left}
use Rattle.std.proofs.lemmas.Nat.{pow-add, shl-shr, mod-pow-add, mul-mod_first}

-- what is left of a product with 2^k at j + k places
pub product_low : (a j k : ℕ) → (a * 2 ^ k) % 2 ^ (j + k) ≡ 2 ^ k * (a % 2 ^ j)
product_low a j k =
    let split : (a * 2 ^ k) % 2 ^ (j + k) ≡ (a * 2 ^ k / 2 ^ k % 2 ^ j) * 2 ^ k + (a * 2 ^ k) % 2 ^ k =
    mod-pow-add (a * 2 ^ k) j k in
    let high : (a * 2 ^ k / 2 ^ k % 2 ^ j) * 2 ^ k ≡ 2 ^ k * (a % 2 ^ j) =
    ap (λ x. (x % 2 ^ j) * 2 ^ k) (shl-shr a k) ∙ mul_comm (a % 2 ^ j) (2 ^ k) in
    omega (arith, mul-mod_left a (2 ^ k))

-- and at n places, no more than k
pub product_none : (a n k : ℕ) → n ≤ k → (a * 2 ^ k) % 2 ^ n ≡ 0
product_none a n k h =
    let e : a * 2 ^ k ≡ (a * 2 ^ (k - n)) * 2 ^ n =
    ap (λ x. a * 2 ^ x) (omega arith) ∙ ap (λ x. a * x) (pow-add 2 (k - n) n)
    ∙ sym (mul_assoc a (2 ^ (k - n)) (2 ^ n)) in
    ap (λ x. x % 2 ^ n) e ∙ mul-mod_left (a * 2 ^ (k - n)) (2 ^ n)

-- a product with 2^i, cut off, and one with 2^j are one with 2^(i + j)
pub product_more : (a n i j : ℕ) → ((a * 2 ^ i) % 2 ^ n * 2 ^ j) % 2 ^ n ≡ (a * 2 ^ (i + j)) % 2 ^ n
product_more a n i j =
    mul-mod_first (a * 2 ^ i) (2 ^ j) (2 ^ n)
    ∙ ap (λ x. x % 2 ^ n) (mul_assoc a (2 ^ i) (2 ^ j) ∙ ap (λ x. a * x) (sym (pow-add 2 i j)))
