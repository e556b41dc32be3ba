-- Elements of lists by their places, and truth values.
use Rattle.std.proofs.Common.{◌≡◌, ℕ, zero, suc, ◌<◌, ◌≤◌, true, ◌&&◌, List, [], ◌∷◌, ◌++◌, drop}
use Rattle.std.proofs.Common.{length, Some, slice_get, nat_eq, nat_le, nat_lt, refl, ap, arith}
use Rattle.std.proofs.lemmas.Bool.{and_from, eq-eqb, le-leb, leb-true, lt-ltb}
use Rattle.std.proofs.lemmas.Bool.Decides.{nat_tests}

pub nat_eq_same : (n : ℕ) → nat_eq n n ≡ true
nat_eq_same n = eq-eqb n n refl

pub get_left : {A : Type 0} (xs ys : List A) (i : ℕ) → i < length xs → slice_get (xs ++ ys) i ≡ slice_get xs i
get_left [] ys i lt = absurd (omega arith)
get_left (x ∷ xs) ys zero lt = refl
get_left (x ∷ xs) ys (suc i) lt = get_left xs ys i (omega arith)

pub get_seam : {A : Type 0} (xs : List A) (y : A) (ys : List A) (i : ℕ) → i ≡ length xs →
    slice_get (xs ++ y ∷ ys) i ≡ Some y
get_seam [] y ys zero is = refl
get_seam [] y ys (suc i) is = cc
get_seam (x ∷ xs) y ys zero is = cc
get_seam (x ∷ xs) y ys (suc i) is = get_seam xs y ys i (omega arith)

-- the list with another element at place k
abbrev pub put : {A : Type 0} → List A → ℕ → A → List A
put [] k y = []
put (x ∷ xs) zero y = y ∷ xs
put (x ∷ xs) (suc k) y = x ∷ put xs k y

pub get_put : {A : Type 0} (xs : List A) (k : ℕ) (y : A) → k < length xs → slice_get (put xs k y) k ≡ Some y
get_put [] k y lt = absurd (omega arith)
get_put (x ∷ xs) zero y lt = refl
get_put (x ∷ xs) (suc k) y lt = get_put xs k y (omega arith)

pub get_other : {A : Type 0} (xs : List A) (k j : ℕ) (y : A) → (j ≡ k → ⊥) → slice_get (put xs k y) j ≡ slice_get xs j
get_other [] k j y differ = refl
get_other (x ∷ xs) zero zero y differ = absurd (differ refl)
get_other (x ∷ xs) zero (suc j) y differ = refl
get_other (x ∷ xs) (suc k) zero y differ = refl
get_other (x ∷ xs) (suc k) (suc j) y differ = get_other xs k j y (λ e. differ (omega arith))

pub get_within : {A : Type 0} (xs : List A) (i : ℕ) → i < length xs → (x : A) × (slice_get xs i ≡ Some x)
get_within [] i lt = absurd (omega arith)
get_within (x ∷ xs) zero lt = (x, refl)
get_within (x ∷ xs) (suc i) lt = get_within xs i (omega arith)

pub drop_at : {A : Type 0} (xs : List A) (i : ℕ) (x : A) → slice_get xs i ≡ Some x → drop i xs ≡ x ∷ drop (suc i) xs
drop_at [] i x at = cc
drop_at (y ∷ xs) zero x at = let same : y ≡ x = cc in ap (λ z. z ∷ xs) same
drop_at (y ∷ xs) (suc i) x at = drop_at xs i x at
