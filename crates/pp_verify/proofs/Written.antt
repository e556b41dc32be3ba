-- A list in which the element at one place was written.
use Rattle.std.proofs.Common.{◌≡◌, ◌∙◌, ℕ, zero, suc, ◌<◌, List, [], ◌∷◌, ◌⊎◌, Option, Some, inl, inr, length}
use Rattle.std.proofs.Common.{option_map, slice_get, slice_index_or, slice_set, refl, ap, arith}
use Rattle.pp_gate.proofs.Places.{at_read}

-- what stands at a place is what was written there, or stood there before
pub at_written : {X : Type 0} (xs : List X) (i : ℕ) (y : X) (k : ℕ) (x : X) → slice_get (slice_set xs i y) k ≡ Some x
    → ((k ≡ i) × (y ≡ x)) ⊎ ((k ≡ i → ⊥) × (slice_get xs k ≡ Some x))
at_written [] i y k x e = cc
at_written (z ∷ zs) zero y zero x e = inl (refl, cc)
at_written (z ∷ zs) zero y (suc k) x e = inr (λ h. omega (arith, h), e)
at_written (z ∷ zs) (suc i) y zero x e = inr (λ h. omega (arith, h), e)
at_written (z ∷ zs) (suc i) y (suc k) x e =
    elim (at_written zs i y k x e) [
      | inl here ↦ inl (ap suc here.0, here.1)
      | inr there ↦ inr (λ h. there.0 (omega (arith, h)), there.1)
    ]

-- what a function makes of the element that was read at a place
pub read : {X Y : Type 0} (f : X → Y) (xs ys : List X) (k : ℕ) (x : X) → ys ≡ xs → k < length xs
    → x ≡ slice_index_or ys k x → option_map f (slice_get xs k) ≡ Some (f x)
read {X} f xs ys k x same within is =
    ap (λ (o : Option X). option_map f o)
    (at_read xs k x within (is ∙ ap (λ (l : List X). slice_index_or l k x) same))

-- at each other place stands what stood there before
pub at_other : {X : Type 0} (xs : List X) (i : ℕ) (y : X) (k : ℕ) → (k ≡ i → ⊥)
    → slice_get (slice_set xs i y) k ≡ slice_get xs k
at_other [] i y k differ = refl
at_other (z ∷ zs) zero y zero differ = absurd (differ refl)
at_other (z ∷ zs) zero y (suc k) differ = refl
at_other (z ∷ zs) (suc i) y zero differ = refl
at_other (z ∷ zs) (suc i) y (suc k) differ = at_other zs i y k (λ h. differ (ap suc h))
