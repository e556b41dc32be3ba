-- Where two texts are equal, what stands before the first mark is equal, and so is the rest.
use Rattle.std.proofs.Common.{◌≡◌, ◌∙◌, ℕ, suc, List, [], ◌∷◌, ◌++◌, get_or, drop, refl, sym, ap, subst, arith}
use Rattle.std.specs.Prelude.{All, Contains}
use Rattle.std.proofs.lemmas.List.Elements.{All-contains}
use Rattle.pp_tokens.proofs.Every.{Every, all_of}

-- it doesn't go on with such a byte
abbrev pub Stops : (ℕ → Type 0) → List ℕ → Type 0
Stops P [] = Unit {0}
Stops P (c ∷ cs) = P c → ⊥

pub first_same : {x y : ℕ} {xs ys : List ℕ} → x ∷ xs ≡ y ∷ ys → x ≡ y
first_same e = ap (λ (l : List ℕ). get_or l 0 0) e

pub rest_same : {X : Type 0} {x y : X} {xs ys : List X} → x ∷ xs ≡ y ∷ ys → xs ≡ ys
rest_same {X} e = ap (λ (l : List X). drop 1 l) e

pub one_span : (P : ℕ → Type 0) (a b r s : List ℕ) → Every P a → Every P b → Stops P r → Stops P s → a ++ r ≡ b ++ s
    → (a ≡ b) × (r ≡ s)
one_span P [] [] r s h k p q e = (refl, e)
one_span P [] (y ∷ b) r s h k p q e = absurd (subst (Stops P) e p k.0)
one_span P (x ∷ a) [] r s h k p q e = absurd (subst (Stops P) (sym e) q h.0)
one_span P (x ∷ a) (y ∷ b) r s h k p q e =
    let first = first_same e in
    let rest = one_span P a b r s h.1 k.1 p q (rest_same e) in
    (ap (λ z. z ∷ a) first ∙ ap (λ l. y ∷ l) rest.0, rest.1)

-- ---- each element

pub every_of : {X : Type 0} (P : X → Type 0) (xs : List X) → ((x : X) → Contains xs x → P x) → Every P xs
every_of P [] h = tt
every_of P (x ∷ xs) h =
    (h x (0, omega arith, refl), every_of P xs (λ y has. h y (suc has.0, omega (arith, has.1), has.2)))

pub every_append : {X : Type 0} (P : X → Type 0) (xs ys : List X) → Every P xs → Every P ys → Every P (xs ++ ys)
every_append P [] ys h k = k
every_append P (x ∷ xs) ys h k = (h.0, every_append P xs ys h.1 k)

pub of_all : {X : Type 0} (P : X → Type 0) (xs : List X) → All P xs → Every P xs
of_all P [] h = tt
of_all P (x ∷ xs) h = (h 0 x (omega arith), of_all P xs (λ k d lt. h (suc k) d (omega arith)))

pub every_contained : {X : Type 0} (P : X → Type 0) (xs : List X) → Every P xs → (x : X) → Contains xs x → P x
every_contained P xs h x here = All-contains P xs x (all_of P xs h) here
