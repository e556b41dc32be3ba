-- What stands in a list from a place on.
use Rattle.std.proofs.Common.{◌≡◌, ◌+◌, ℕ, suc, List, ◌∷◌, Some, refl, subst, arith}
use Rattle.std.specs.Prelude.{slice_get}

-- these stand in the list from this place on
abbrev pub AreFrom : {X : Type 0} → List X → ℕ → List X → Type 0
AreFrom {X} all i xs = (k : ℕ) (x : X) → slice_get xs k ≡ Some x → slice_get all (i + k) ≡ Some x

pub from_start : {X : Type 0} (all : List X) → AreFrom all 0 all
from_start all k x at = let same : k ≡ 0 + k = omega arith in subst (λ n. slice_get all n ≡ Some x) same at

pub from_first : {X : Type 0} (all : List X) (i : ℕ) (x : X) (xs : List X) → AreFrom all i (x ∷ xs)
    → slice_get all i ≡ Some x
from_first all i x xs from =
    let same : i + 0 ≡ i = omega arith in subst (λ n. slice_get all n ≡ Some x) same (from 0 x refl)

pub from_rest : {X : Type 0} (all : List X) (i : ℕ) (x : X) (xs : List X) → AreFrom all i (x ∷ xs)
    → AreFrom all (suc i) xs
from_rest all i x xs from k y at =
    let same : i + suc k ≡ suc i + k = omega arith in subst (λ n. slice_get all n ≡ Some y) same (from (suc k) y at)
