-- The lexicographic order of lists of numbers of one length is well-founded.
use Rattle.std.proofs.Common.{◌≡◌, ◌⊎◌, ℕ, zero, suc, ◌<◌, List, [], ◌∷◌, length, sym, subst, arith, inl, inr}

-- some number is less, and those before it are equal
abbrev pub Less : List ℕ → List ℕ → Type 0
Less [] ys = ⊥
Less (x ∷ xs) [] = ⊥
Less (x ∷ xs) (y ∷ ys) = (x < y) ⊎ ((x ≡ y) × Less xs ys)

-- what holds of a list where it holds of each list of the length that is less
abbrev Goes : ℕ → (List ℕ → Type 0) → Type 0
Goes k Q = (ys : List ℕ) → length ys ≡ k → ((xs : List ℕ) → length xs ≡ k → Less xs ys → Q xs) → Q ys

none_less : (xs : List ℕ) → Less xs [] → ⊥
none_less [] h = h
none_less (x ∷ xs) h = h

-- each tail of the length k, behind a head below n
abbrev Below : ℕ → (List ℕ → Type 0) → ℕ → Type 0
Below k Q n = (m : ℕ) (tail : List ℕ) → m < n → length tail ≡ k → Q (m ∷ tail)

by_heads : (k : ℕ) (Q : List ℕ → Type 0) → ((n : ℕ) → Below k Q n → Below k Q (suc n)) → (n : ℕ) → Below k Q n
by_heads k Q go zero m tail lt e = absurd (omega (arith, lt))
by_heads k Q go (suc n) m tail lt e = go n (by_heads k Q go n) m tail lt e

-- what holds of the lists with a lower head, and of the tails that are less
behind : (k : ℕ) (Q : List ℕ → Type 0) → Goes (suc k) Q → (n m : ℕ) → m < suc n → Below k Q n
    → Goes k (λ tail. Q (m ∷ tail))
behind k Q go n m lt below tail same less = go (m ∷ tail) (omega (arith, same)) by
  where
    by : (xs : List ℕ) → length xs ≡ suc k → Less xs (m ∷ tail) → Q xs
    by [] is h = absurd h
    by (x ∷ xs) is (inl first) = below x xs (omega (arith, first, lt)) (omega (arith, is))
    by (x ∷ xs) is (inr rest) = subst (λ z. Q (z ∷ xs)) (sym rest.0) (less xs (omega (arith, is)) rest.1)

pub by_lists : (k : ℕ) (Q : List ℕ → Type 0) → Goes k Q → (ys : List ℕ) → length ys ≡ k → Q ys
by_lists zero Q go [] e = go [] e (λ xs same less. absurd (none_less xs less))
by_lists zero Q go (y ∷ ys) e = absurd (omega (arith, e))
by_lists (suc k) Q go [] e = absurd (omega (arith, e))
by_lists (suc k) Q go (y ∷ ys) e =
    by_heads k Q (λ n below m tail lt same. by_lists k (λ t. Q (m ∷ t)) (behind k Q go n m lt below) tail same)
    (suc y) y ys (omega arith) (omega (arith, e))
