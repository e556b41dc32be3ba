-- Lists in which no element is like another that stands before it.
use Rattle.std.proofs.Common.{◌≡◌, ◌⊎◌, ℕ, zero, suc, Bool, true, false, List, [], ◌∷◌, ◌++◌, Some, map}
use Rattle.std.proofs.Common.{cond, inl, inr, refl, sym, ap, subst, arith}
use Rattle.std.proofs.lemmas.Option.{same_Some}
use Rattle.std.specs.List.{filter}
use Rattle.std.specs.Prelude.{slice_get}

-- the element stands in the list
pub record Has {X : Type 0} (xs : List X) (x : X) : Type 0 where
  pub place : ℕ
  pub here : slice_get xs place ≡ Some x

pub has_more : {X : Type 0} {xs : List X} {x : X} (y : X) → Has xs x → Has (y ∷ xs) x
has_more y h = record { place = suc h.place; here = h.here }

has_first : {X : Type 0} (x : X) (xs : List X) → Has (x ∷ xs) x
has_first x xs = record { place = 0; here = refl }

pub has_mapped : {X Y : Type 0} (f : X → Y) (xs : List X) (k : ℕ) (y : Y) → slice_get (map f xs) k ≡ Some y
    → (x : X) × Has xs x × (f x ≡ y)
has_mapped f [] k y at = cc
has_mapped f (x ∷ xs) zero y at = (x, has_first x xs, same_Some _ _ at)
has_mapped f (x ∷ xs) (suc k) y at = let m = has_mapped f xs k y at in (m.0, has_more x m.1, m.2)

pub has_either : {X : Type 0} (xs ys : List X) (k : ℕ) (x : X) → slice_get (xs ++ ys) k ≡ Some x → Has xs x ⊎ Has ys x
has_either [] ys k x at = inr (record { place = k; here = at })
has_either (y ∷ xs) ys zero x at = inl (record { place = 0; here = at })
has_either (y ∷ xs) ys (suc k) x at = elim (has_either xs ys k x at) [
  | inl h ↦ inl (has_more y h)
  | inr h ↦ inr h
]

pub has_filtered : {X : Type 0} (test : X → Bool) (xs : List X) (k : ℕ) (x : X) → slice_get (filter test xs) k ≡ Some x
    → Has xs x
has_filtered test [] k x at = cc
has_filtered test (y ∷ xs) k x at = by (test y) k at (λ j there. has_filtered test xs j x there)
  where
    by : (b : Bool) (k : ℕ) → slice_get (cond b (y ∷ filter test xs) (filter test xs)) k ≡ Some x
        → ((j : ℕ) → slice_get (filter test xs) j ≡ Some x → Has xs x) → Has (y ∷ xs) x
    by true zero at rest = record { place = 0; here = at }
    by true (suc k) at rest = has_more y (rest k at)
    by false k at rest = has_more y (rest k at)

module _ {X : Type 0} (R : X → X → Type 0) where
  abbrev pub IsUnlike : X → List X → Type 0
  IsUnlike x xs = (y : X) → Has xs y → R x y → ⊥

  abbrev pub Unlike : List X → Type 0
  Unlike [] = Unit {0}
  Unlike (x ∷ xs) = IsUnlike x xs × Unlike xs

  pub unlike_filter : (test : X → Bool) (xs : List X) → Unlike xs → Unlike (filter test xs)
  unlike_filter test [] h = tt
  unlike_filter test (x ∷ xs) h = by (test x) (unlike_filter test xs h.1)
    where
      by : (b : Bool) → Unlike (filter test xs) → Unlike (cond b (x ∷ filter test xs) (filter test xs))
      by true rest = ((λ y has. h.0 y (has_filtered test xs has.place y has.here)), rest)
      by false rest = rest

  pub unlike_append : (xs ys : List X) → Unlike xs → Unlike ys
      → ((x y : X) → Has xs x → Has ys y → R x y → ⊥) → Unlike (xs ++ ys)
  unlike_append [] ys h k apart = k
  unlike_append (x ∷ xs) ys h k apart = (
    λ y has r. elim (has_either xs ys has.place y has.here) [
      | inl one ↦ h.0 y one r
      | inr one ↦ apart x y (has_first x xs) one r
    ],
    unlike_append xs ys h.1 k (λ a b one two. apart a b (has_more x one) two),
  )

  -- two that are alike are one
  pub unlike_places : ((x y : X) → R x y → R y x) → (xs : List X) → Unlike xs → (i j : ℕ) (a b : X)
      → slice_get xs i ≡ Some a → slice_get xs j ≡ Some b → R a b → i ≡ j
  unlike_places back [] h i j a b there here r = cc
  unlike_places back (x ∷ xs) h zero zero a b there here r = refl
  unlike_places back (x ∷ xs) h zero (suc j) a b there here r =
      absurd (h.0 b (record { place = j; here = here }) (subst (λ z. R z b) (sym (same_Some _ _ there)) r))
  unlike_places back (x ∷ xs) h (suc i) zero a b there here r =
      absurd (h.0 a (record { place = i; here = there }) (subst (λ z. R z a) (sym (same_Some _ _ here)) (back a b r)))
  unlike_places back (x ∷ xs) h (suc i) (suc j) a b there here r =
      ap suc (unlike_places back xs h.1 i j a b there here r)

  -- where like elements stand at one place, none is like one before it
  pub places_unlike : (xs : List X)
      → ((i j : ℕ) (a b : X) → slice_get xs i ≡ Some a → slice_get xs j ≡ Some b → R a b → i ≡ j) → Unlike xs
  places_unlike [] h = tt
  places_unlike (x ∷ xs) h = (
    λ y has r. absurd (let no : 0 ≡ suc has.place = h 0 (suc has.place) x y refl has.here r in omega (arith, no)),
    places_unlike xs (λ i j a b there here r.
        let same : suc i ≡ suc j = h (suc i) (suc j) a b there here r in omega (arith, same)),
  )

pub unlike_map : {X Y : Type 0} (R : X → X → Type 0) (S : Y → Y → Type 0) (f : X → Y)
    → ((a b : X) → S (f a) (f b) → R a b) → (xs : List X) → Unlike R xs → Unlike S (map f xs)
unlike_map R S f back [] h = tt
unlike_map R S f back (x ∷ xs) h = (
  λ y has s.
      let m = has_mapped f xs has.place y has.here in
      h.0 m.0 m.1 (back x m.0 (subst (S (f x)) (sym m.2) s)),
  unlike_map R S f back xs h.1,
)
