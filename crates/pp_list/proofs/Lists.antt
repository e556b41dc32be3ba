-- Lists and the items at their places.
use Rattle.std.proofs.Common.{◌≡◌, ℕ, suc, ◌+◌, ◌<◌, List, [], ◌∷◌, ◌++◌, take, drop, length, get_or, sym, ap, ◌∙◌}
use Rattle.std.proofs.Common.{subst, arith, drop-cons, zero, ◌≤◌}
use Rattle.std.specs.Prelude.{Some, Contains, slice_get}
use Rattle.std.proofs.lemmas.List.{take_more}
use Rattle.std.proofs.lemmas.List.Elements.{Contains-get_or}
use Rattle.std.proofs.lemmas.Option.{get_or_from_slice_get, slice_get_within}
use denote.Param.Weighed.{most}

-- what is left from a place on is the item there, and what is left behind it
pub rest_at : {X : Type 0} (xs : List X) (i : ℕ) (x : X) → i < length xs → x ≡ get_or xs i x
    → drop i xs ≡ x ∷ drop (i + 1) xs
rest_at xs i x lt is =
    let e : drop i xs ≡ get_or xs i x ∷ drop (suc i) xs = drop-cons xs i x lt in
    let n : suc i ≡ i + 1 = omega arith in
    e ∙ ap (λ y. y ∷ drop (suc i) xs) (sym is) ∙ ap (λ k. x ∷ drop k xs) n

-- the items up to a place, and the one there
pub taken_next : {X : Type 0} (xs : List X) (i : ℕ) (x : X) → slice_get xs i ≡ Some x
    → take (i + 1) xs ≡ take i xs ++ x ∷ []
taken_next xs i x at =
    take_more xs i x (slice_get_within xs i x at) ∙ ap (λ z. take i xs ++ z ∷ []) (get_or_from_slice_get xs i x x at)

-- what stands at a place is in the list
pub element : {A : Type 0} (xs : List A) (n : ℕ) (x : A) → slice_get xs n ≡ Some x → Contains xs x
element xs n x h =
    subst (λ z. Contains xs z) (get_or_from_slice_get xs n x x h) (Contains-get_or xs n x (slice_get_within xs n x h))

-- a list without items has none at any place
pub no_item : {X : Type 0} (k : ℕ) (x : X) → slice_get [] k ≡ Some x → ⊥
no_item k x at = cc

pub nothing : {X : Type 0} {Y : Type 0} (xs : List X) (i : ℕ) (x : X) → xs ≡ [] → slice_get xs i ≡ Some x → Y
nothing xs i x none at = let no : slice_get [] i ≡ Some x = subst (λ ys. slice_get ys i ≡ Some x) none at in cc

-- what stands at a place counts for no more than the most of all
pub found_most : {X : Type 0} (f : X → ℕ) (xs : List X) (i : ℕ) (x : X) → slice_get xs i ≡ Some x → f x ≤ most f xs
found_most f [] i x is = cc
found_most f (y ∷ ys) zero x is = let e : y ≡ x = cc in omega (arith, ap f e)
found_most f (y ∷ ys) (suc i) x is = omega (arith, found_most f ys i x is)
