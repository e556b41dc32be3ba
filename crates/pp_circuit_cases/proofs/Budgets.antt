-- The budgets of calls on at most 32 digits.
use Rattle.std.proofs.Common.{◌≡◌, ℕ, ◌+◌, ◌*◌, ◌^◌, ◌≤◌, arith}
use Rattle.std.proofs.Math.Nat.{mul-le-mul}

pub product_fits : (k n : ℕ) → n ≤ 32 → k + 8192 ≤ 2 ^ 30 → k + 2 * (n * (n + 1)) ≤ 2 ^ 30
product_fits k n small room =
    let above : n + 1 ≤ 33 = omega arith in
    let most : n * (n + 1) ≤ 32 * 33 = mul-le-mul small above in
    omega arith

pub shift_fits : (k m n : ℕ) → m ≡ n → m ≤ 32 → k + 8192 ≤ 2 ^ 30 → k + m * n ≤ 2 ^ 30
shift_fits k m n same small room =
    let other : n ≤ 32 = omega arith in
    let most : m * n ≤ 32 * 32 = mul-le-mul small other in
    omega arith

pub quotient_fits : (k m n : ℕ) → m ≡ n → m ≤ 32 → k + 8192 ≤ 2 ^ 30 → k + (5 * n + 4) * m ≤ 2 ^ 30
quotient_fits k m n same small room =
    let wide : 5 * n + 4 ≤ 164 = omega arith in
    let most : (5 * n + 4) * m ≤ 164 * 32 = mul-le-mul wide small in
    omega arith
