-- How many numbers below a bound are in a set.
use Rattle.std.proofs.Common.{◌≡◌, ◌↔◌, ◌⊎◌, ◌<◌, ◌≤◌, ◌+◌, ◌≢◌, nat_eq, true, false, ℕ, zero, suc, refl, sym, subst}
use Rattle.std.proofs.Common.{arith, inl, inr}
use Rattle.std.proofs.lemmas.Bool.Decides.{eqb_tells}
use Rattle.pp_checks.specs.Ranks.{CountBelow}

-- a smaller set has at most as many
pub count_le : (P Q : ℕ → Type 0) (n k m : ℕ) → ((g : ℕ) → g < n → P g → Q g) → CountBelow P n k
    → CountBelow Q n m → k ≤ m
count_le P Q zero k m within p q = omega (arith, p, q)
count_le P Q (suc n) k m within (inl p) (inl q) =
    omega (arith, p.1.2, q.1.2, count_le P Q n p.1.0 q.1.0 (λ g lt. within g (omega arith)) p.1.1 q.1.1)
count_le P Q (suc n) k m within (inl p) (inr q) = absurd (q.0 (within n (omega arith) p.0))
count_le P Q (suc n) k m within (inr p) (inl q) =
    omega (arith, q.1.2, count_le P Q n k q.1.0 (λ g lt. within g (omega arith)) p.1 q.1.1)
count_le P Q (suc n) k m within (inr p) (inr q) =
    count_le P Q n k m (λ g lt. within g (omega arith)) p.1 q.1

-- a set that lacks a number of the other has fewer
pub count_lt : (P Q : ℕ → Type 0) (n k m j : ℕ) → ((g : ℕ) → g < n → P g → Q g) → j < n → Q j → (P j → ⊥)
    → CountBelow P n k → CountBelow Q n m → k < m
count_lt P Q zero k m j within lt has lacks p q = absurd (omega arith)
count_lt P Q (suc n) k m j within lt has lacks p q =
    by (λ x y below a b. count_lt P Q n x y j (λ g h. within g (omega arith)) below has lacks a b) (eqb_tells j n) p q
  where
    less : (g : ℕ) → g < n → P g → Q g
    less g h = within g (omega arith)

    by : ((x y : ℕ) → j < n → CountBelow P n x → CountBelow Q n y → x < y)
        → ((nat_eq j n ≡ true) × (j ≡ n)) ⊎ ((nat_eq j n ≡ false) × (j ≢ n)) → CountBelow P (suc n) k
        → CountBelow Q (suc n) m → k < m
    by again (inl e) (inl a) b = absurd (lacks (subst P (sym e.1) a.0))
    by again (inl e) (inr a) (inl b) = omega (arith, b.1.2, count_le P Q n k b.1.0 less a.1 b.1.1)
    by again (inl e) (inr a) (inr b) = absurd (b.0 (subst Q e.1 has))
    by again (inr e) (inl a) (inl b) =
        omega (arith, a.1.2, b.1.2, again a.1.0 b.1.0 (omega (arith, e.1)) a.1.1 b.1.1)
    by again (inr e) (inl a) (inr b) = absurd (b.0 (within n (omega arith) a.0))
    by again (inr e) (inr a) (inl b) = omega (arith, b.1.2, count_le P Q n k b.1.0 less a.1 b.1.1)
    by again (inr e) (inr a) (inr b) = again k m (omega (arith, e.1)) a.1 b.1

-- two sets with the same numbers have as many
pub count_same : (P Q : ℕ → Type 0) (n k : ℕ) → ((g : ℕ) → g < n → P g ↔ Q g) → CountBelow P n k → CountBelow Q n k
count_same P Q zero k same p = p
count_same P Q (suc n) k same (inl p) =
    inl ((same n (omega arith)).0 p.0, (p.1.0, count_same P Q n p.1.0 (λ g lt. same g (omega arith)) p.1.1, p.1.2))
count_same P Q (suc n) k same (inr p) =
    inr (λ q. p.0 ((same n (omega arith)).1 q), count_same P Q n k (λ g lt. same g (omega arith)) p.1)

pub count_within : (P : ℕ → Type 0) (n k : ℕ) → CountBelow P n k → k ≤ n
count_within P zero k p = omega (arith, p)
count_within P (suc n) k (inl p) = omega (arith, p.1.2, count_within P n p.1.0 p.1.1)
count_within P (suc n) k (inr p) = omega (arith, count_within P n k p.1)

-- a set whose membership can be decided has a number
pub count_of : (P : ℕ → Type 0) (n : ℕ) → ((g : ℕ) → P g ⊎ (P g → ⊥)) → (k : ℕ) × CountBelow P n k
count_of P zero decide = (0, refl)
count_of P (suc n) decide = by (decide n) (count_of P n decide)
  where
    by : P n ⊎ (P n → ⊥) → ((k : ℕ) × CountBelow P n k) → (k : ℕ) × CountBelow P (suc n) k
    by (inl yes_) c = (c.0 + 1, inl (yes_, (c.0, c.1, refl)))
    by (inr no_) c = (c.0, inr (no_, c.1))
