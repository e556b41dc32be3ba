-- Arithmetic on the numbers of steps.
use Rattle.std.proofs.Common.{◌≡◌, ◌+◌, ◌-◌, ◌<◌, ◌≤◌, ℕ, suc, false, nat_eq, arith}

pub plus_zero : (k : ℕ) → k + 0 ≡ k
plus_zero k = omega arith

pub zero_plus : (k : ℕ) → 0 + k ≡ k
zero_plus k = omega arith

pub add_suc : (a b : ℕ) → a + suc b ≡ suc a + b
add_suc a b = omega arith

pub less_suc : (i k : ℕ) → i < k → i < suc k
less_suc i k h = omega arith

pub self_less : (k : ℕ) → k < suc k
self_less k = omega arith

pub less_later : (a k n : ℕ) → k ≤ n → a < k → a < n
less_later a k n le h = omega arith

pub le_trans : (a b c : ℕ) → a ≤ b → b ≤ c → a ≤ c
le_trans a b c h g = omega arith

pub two_up : (a k : ℕ) → a < k → a < suc (suc k)
two_up a k h = omega arith

pub nat_eq_less : (i k : ℕ) → i < k → nat_eq i k ≡ false
nat_eq_less i k h = grind arith

-- the first numbers behind k, of so many
pub first_one : (k : ℕ) → k < k + 1
first_one k = omega arith

pub first_two : (k : ℕ) → k < k + 2
first_two k = omega arith

pub second_two : (k : ℕ) → suc k < k + 2
second_two k = omega arith

pub second_three : (k : ℕ) → suc k < k + 3
second_three k = omega arith

pub third_three : (k : ℕ) → suc (suc k) < k + 3
third_three k = omega arith

pub plus_suc : (a b : ℕ) → suc a + b ≡ a + suc b
plus_suc a b = omega arith

pub plus_none : (a : ℕ) → a ≡ a + 0
plus_none a = omega arith

pub minus_zero : (n : ℕ) → n - 0 ≡ n
minus_zero n = omega arith

pub minus_one : (n : ℕ) → suc n - 1 ≡ n
minus_one n = omega arith
