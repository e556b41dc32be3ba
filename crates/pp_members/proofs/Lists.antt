-- What lists have as elements.
use Rattle.std.proofs.Common.{◌≡◌, ◌⊎◌, inl, inr, ⊎_elim, ℕ, zero, suc, List, [], ◌∷◌, map, replicate, sym, subst}
use Rattle.std.specs.Prelude.{Contains}
use Rattle.std.proofs.lemmas.List.Elements.{Contains-append_cases, Contains-append_left, Contains-append_right}
use Rattle.std.proofs.lemmas.List.Elements.{Contains-push, Contains-push_cases}
use Rattle.pp_list.specs.Joined.{joined}
use Rattle.pp_instances.proofs.Kept.{nothing_in}

pub first_in : {A : Type 0} (x : A) (xs : List A) → Contains (x ∷ xs) x
first_in x xs = Contains-append_left (x ∷ []) xs x (Contains-push [] x)

pub later_in : {A : Type 0} (x : A) (xs : List A) (y : A) → Contains xs y → Contains (x ∷ xs) y
later_in x xs y h = Contains-append_right (x ∷ []) xs y h

-- an element is the first or one of the others
pub first_or_later : {A : Type 0} (x : A) (xs : List A) (y : A) → Contains (x ∷ xs) y → (x ≡ y) ⊎ Contains xs y
first_or_later x xs y h =
    ⊎_elim
    (λ (one : Contains (x ∷ []) y). ⊎_elim (λ (no : Contains [] y). absurd (nothing_in y no)) (λ (e : x ≡ y). inl e)
    (Contains-push_cases [] x y one))
    (λ (later : Contains xs y). inr later) (Contains-append_cases (x ∷ []) xs y h)

-- an element of what is mapped
pub record IsMapped {A B : Type 0} (f : A → B) (xs : List A) (y : B) : Type 0 where
  pub from : A
  pub has : Contains xs from
  pub is : y ≡ f from

pub in_mapped : {A B : Type 0} (f : A → B) (xs : List A) (y : B) → Contains (map f xs) y → IsMapped f xs y
in_mapped f [] y h = absurd (nothing_in y h)
in_mapped f (x ∷ xs) y h =
    ⊎_elim (λ (e : f x ≡ y). record { from = x; has = first_in x xs; is = sym e })
    (λ (later : Contains (map f xs) y). let m = in_mapped f xs y later in
    record { from = m.from; has = later_in x xs m.from m.has; is = m.is })
    (first_or_later (f x) (map f xs) y h)

pub mapped_in : {A B : Type 0} (f : A → B) (xs : List A) (x : A) → Contains xs x → Contains (map f xs) (f x)
mapped_in f [] x h = absurd (nothing_in x h)
mapped_in f (y ∷ xs) x h =
    ⊎_elim (λ (e : y ≡ x). subst (λ z. Contains (map f (y ∷ xs)) (f z)) e (first_in (f y) (map f xs)))
    (λ (later : Contains xs x). later_in (f y) (map f xs) (f x) (mapped_in f xs x later)) (first_or_later y xs x h)

-- an element of one of the parts
pub joined_in : {A B : Type 0} (f : A → List B) (xs : List A) (x : A) (y : B) → Contains xs x → Contains (f x) y
    → Contains (joined (map f xs)) y
joined_in f [] x y h k = absurd (nothing_in x h)
joined_in f (z ∷ xs) x y h k =
    ⊎_elim (λ (e : z ≡ x). Contains-append_left (f z) (joined (map f xs)) y (subst (λ w. Contains (f w) y) (sym e) k))
    (λ (later : Contains xs x). Contains-append_right (f z) (joined (map f xs)) y (joined_in f xs x y later k))
    (first_or_later z xs x h)

pub in_replicate : {A : Type 0} (n : ℕ) (x y : A) → Contains (replicate n x) y → x ≡ y
in_replicate zero x y h = absurd (nothing_in y h)
in_replicate (suc n) x y h = ⊎_elim (λ e. e) (in_replicate n x y) (first_or_later x (replicate n x) y h)
