-- Sums, products and maxima of numbers that grow.
use Rattle.std.proofs.Common.{◌≡◌, ◌<◌, ◌≤◌, ◌+◌, ◌*◌, ℕ, zero, suc, max}
use Rattle.std.proofs.Common.{List, [], ◌∷◌, map, sum, arith, subst, refl, inl, inr}
use Rattle.std.specs.List.{sum_by}
use Rattle.std.proofs.lemmas.Bool.Decides.{leb_tells}
use Rattle.std.proofs.lemmas.List.Sums.{sum-map, sum_by-cons}
use Rattle.std.proofs.Math.Nat.{eq-or-lt_of_le, le-max_left, le-max_right, le-min, max-le, min-eq_left, min-eq_right}
use Rattle.std.proofs.Math.Nat.{min-le_left, min-le_right, mul-le-mul_left, mul-le-mul_right}
use Rattle.pp_estimate.specs.Cut.{cut, top}
use Rattle.pp_estimate.specs.Estimates.{sum_below}

pub le_same : (n : ℕ) → n ≤ n
le_same n = omega arith

pub le_then : (a b c : ℕ) → a ≤ b → b ≤ c → a ≤ c
le_then a b c h k = omega arith

pub suc_grows : (a b : ℕ) → a ≤ b → suc a ≤ suc b
suc_grows a b h = omega arith

pub plus_grows : (a b c d : ℕ) → a ≤ b → c ≤ d → a + c ≤ b + d
plus_grows a b c d h k = omega arith

pub times_grow : (a b c d : ℕ) → a ≤ b → c ≤ d → a * c ≤ b * d
times_grow a b c d h k = le_then (a * c) (b * c) (b * d) (mul-le-mul_right c h) (mul-le-mul_left b k)

pub max_grows : (a b c d : ℕ) → a ≤ b → c ≤ d → max a c ≤ max b d
max_grows a b c d h k =
    max-le (le_then a b (max b d) h (le-max_left b d)) (le_then c d (max b d) k (le-max_right b d))

pub cut_grows : (a b : ℕ) → a ≤ b → cut a ≤ cut b
cut_grows a b h = le-min (le_then (cut a) a b (min-le_left a top) h) (min-le_right a top)

-- a number that isn't cut is the number itself
pub below_top : (n : ℕ) → cut n < top → cut n ≡ n
below_top n low = elim (leb_tells n top) [
  | inl fits ↦ min-eq_left fits.1
  | inr past ↦ no (min-eq_right (less_then n past.1)) low
]
  where
    less_then : (n : ℕ) → top < n → top ≤ n
    less_then n h = omega arith

    no : cut n ≡ top → cut n < top → cut n ≡ n
    no same low = absurd (omega arith)

sums_by_grow : {A : Type 0} (f g : A → ℕ) (xs : List A) → ((x : A) → f x ≤ g x) → sum_by f xs ≤ sum_by g xs
sums_by_grow f g [] h = le_same 0
sums_by_grow f g (x ∷ xs) h =
    rw (sum_by-cons f x xs, sum_by-cons g x xs)
    (plus_grows (f x) (g x) (sum_by f xs) (sum_by g xs) (h x) (sums_by_grow f g xs h))

pub sum_grows : {A : Type 0} (f g : A → ℕ) (xs : List A) → ((x : A) → f x ≤ g x) → sum (map f xs) ≤ sum (map g xs)
sum_grows f g xs h = rw (sum-map f xs, sum-map g xs) (sums_by_grow f g xs h)

pub below_grows : (n : ℕ) (f g : ℕ → ℕ) → ((i : ℕ) → f i ≤ g i) → sum_below n f ≤ sum_below n g
below_grows zero f g h = le_same 0
below_grows (suc n) f g h = plus_grows (sum_below n f) (sum_below n g) (f n) (g n) (below_grows n f g h) (h n)

pub below_same : (n : ℕ) (f g : ℕ → ℕ) → ((i : ℕ) → f i ≡ g i) → sum_below n f ≡ sum_below n g
below_same zero f g h = refl
below_same (suc n) f g h = rw (below_same n f g h, h n) refl

one_more : (n m : ℕ) (f : ℕ → ℕ) → (n ≤ m → sum_below n f ≤ sum_below m f) → n ≤ suc m
    → sum_below n f ≤ sum_below (suc m) f
one_more n m f h le = elim (eq-or-lt_of_le le) [
  | inl same ↦ subst (λ (k : ℕ). sum_below n f ≤ sum_below k f) same (le_same (sum_below n f))
  | inr less ↦ le_then (sum_below n f) (sum_below m f) (sum_below m f + f m) (h (low less)) (more (sum_below m f) (f m))
]
  where
    low : n < suc m → n ≤ m
    low h = omega arith

    more : (a b : ℕ) → a ≤ a + b
    more a b = omega arith

pub more_below : (n m : ℕ) (f : ℕ → ℕ) → n ≤ m → sum_below n f ≤ sum_below m f
more_below zero zero f h = le_same 0
more_below (suc n) zero f h = absurd (omega arith)
more_below n (suc m) f h = one_more n m f (more_below n m f) h
