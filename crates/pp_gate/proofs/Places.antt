-- Where elements stand in a list that has grown.
use Rattle.std.proofs.Common.{◌≡◌, ℕ, zero, suc, ◌<◌, List, [], ◌∷◌, ◌++◌, length, slice_get, slice_index_or}
use Rattle.std.proofs.Common.{Some, refl, ap, ◌⊎◌, inl, inr, arith}
use Rattle.std.proofs.lemmas.Option.{slice_get_cases, slice_get_read}

pub at_left : {X : Type 0} (xs ys : List X) (k : ℕ) (x : X) → slice_get xs k ≡ Some x → slice_get (xs ++ ys) k ≡ Some x
at_left [] ys k x e = cc
at_left (y ∷ xs) ys zero x e = e
at_left (y ∷ xs) ys (suc k) x e = at_left xs ys k x e

-- what stands in a list with one element more
pub at_push : {X : Type 0} (xs : List X) (y : X) (k : ℕ) (x : X) → slice_get (xs ++ y ∷ []) k ≡ Some x
    → (slice_get xs k ≡ Some x) ⊎ ((k ≡ length xs) × (y ≡ x))
at_push [] y zero x e = inr (refl, cc)
at_push [] y (suc k) x e = cc
at_push (z ∷ xs) y zero x e = inl e
at_push (z ∷ xs) y (suc k) x e = elim (at_push xs y k x e) [ inl a ↦ inl a | inr b ↦ inr (ap suc b.0, b.1) ]

pub at_next : {X : Type 0} (xs ys : List X) (x : X) → slice_get (xs ++ x ∷ ys) (length xs) ≡ Some x
at_next [] ys x = refl
at_next (y ∷ xs) ys x = at_next xs ys x

-- an element stands at each place
pub at_some : {X : Type 0} (xs : List X) (k : ℕ) → k < length xs → (x : X) × (slice_get xs k ≡ Some x)
at_some xs k h = elim (slice_get_cases xs k).1 [ inl a ↦ (a.0, a.2) | inr b ↦ absurd (omega arith) ]

-- the element that the code read at a place stands there
pub at_read : {X : Type 0} (xs : List X) (k : ℕ) (x : X) → k < length xs → x ≡ slice_index_or xs k x
    → slice_get xs k ≡ Some x
at_read xs k x lt e = slice_get_read xs (length xs) k x refl lt e
