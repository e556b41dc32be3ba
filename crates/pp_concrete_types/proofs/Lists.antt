-- Lists read at a place.
use Rattle.std.proofs.Common.{◌≡◌, ◌⊎◌, inl, inr, ⊎_elim, ℕ, zero, suc, ◌+◌, ◌<◌, Bool, true, false, cond, ◌&&◌, List}
use Rattle.std.proofs.Common.{[], ◌∷◌, ◌++◌, map, take, length, refl, sym, ap, ◌∙◌, arith}
use Rattle.std.specs.Prelude.{Some, slice_get, Contains}
use Rattle.std.specs.List.{filter, list_all}
use Rattle.std.proofs.lemmas.Option.{get_or_from_slice_get, none-some, same_Some, slice_get_read, slice_get_within}
use Rattle.std.proofs.lemmas.Bool.{and_from}

pub contained : {A : Type 0} (xs : List A) (i : ℕ) (x : A) → slice_get xs i ≡ Some x → Contains xs x
contained xs i x h = (i, slice_get_within xs i x h, get_or_from_slice_get xs i x x h)

pub stands : {A : Type 0} (xs : List A) (x : A) (c : Contains xs x) → slice_get xs c.0 ≡ Some x
stands xs x c = slice_get_read xs (length xs) c.0 x refl c.1 (sym c.2)

-- an item stands at each place of a list
pub item_at : {A : Type 0} (xs : List A) (i : ℕ) → i < length xs → (x : A) × (slice_get xs i ≡ Some x)
item_at [] i lt = absurd (omega arith)
item_at (x ∷ xs) zero lt = (x, refl)
item_at (x ∷ xs) (suc i) lt = item_at xs i (omega arith)

-- an item of two lists is one of the first, or one of the second
pub before_or_behind : {A : Type 0} (xs ys : List A) (i : ℕ) (y : A) → slice_get (xs ++ ys) i ≡ Some y
    → (slice_get xs i ≡ Some y) ⊎ ((j : ℕ) × (i ≡ length xs + j) × (slice_get ys j ≡ Some y))
before_or_behind [] ys i y h = inr (i, omega arith, h)
before_or_behind (x ∷ xs) ys zero y h = inl h
before_or_behind {A} (x ∷ xs) ys (suc i) y h =
    ⊎_elim (λ (e : slice_get xs i ≡ Some y). inl e)
    (λ (q : (j : ℕ) × (i ≡ length xs + j) × (slice_get ys j ≡ Some y)). inr (q.0, (let e = q.1 in omega arith), q.2))
    (before_or_behind xs ys i y h)

-- an item of a mapped list comes from an item at its place
pub unmapped : {A B : Type 0} (f : A → B) (xs : List A) (i : ℕ) (y : B) → slice_get (map f xs) i ≡ Some y
    → (x : A) × (slice_get xs i ≡ Some x) × (f x ≡ y)
unmapped f [] i y h = absurd (none-some _ h)
unmapped f (x ∷ xs) zero y h = (x, refl, same_Some _ _ h)
unmapped f (x ∷ xs) (suc i) y h = unmapped f xs i y h

pub all_mapped : {A B : Type 0} (p : B → Bool) (f : A → B) (xs : List A)
    → ((i : ℕ) (x : A) → slice_get xs i ≡ Some x → p (f x) ≡ true) → list_all p (map f xs) ≡ true
all_mapped p f [] h = refl
all_mapped p f (x ∷ xs) h = and_from (p (f x)) (list_all p (map f xs)) (h 0 x refl) (all_mapped p f xs (λ i. h (suc i)))

module _ {A : Type 0} (p : A → Bool) where
  -- where an item of a filtered list comes from: it passes the test, and so many before it do
  pub record IsPassed (xs : List A) (rank : ℕ) (x : A) : Type 0 where
    pub place : ℕ
    pub at : slice_get xs place ≡ Some x
    pub before : length (filter p (take place xs)) ≡ rank
    pub passes : p x ≡ true

  one_later : (y : A) (xs : List A) (n k : ℕ) (x : A) (b : Bool) → p y ≡ b → cond b (suc n) n ≡ k → IsPassed xs n x
      → IsPassed (y ∷ xs) k x
  one_later y xs n k x b t e r =
      record {
        place = suc r.place;
        at = r.at;
        before = ap (λ c. length (cond c (y ∷ filter p (take r.place xs)) (filter p (take r.place xs)))) t
            ∙ counted b (filter p (take r.place xs)) r.before ∙ e;
        passes = r.passes;
      }
    where
      counted : (b : Bool) (zs : List A) → length zs ≡ n → length (cond b (y ∷ zs) zs) ≡ cond b (suc n) n
      counted true zs h = ap suc h
      counted false zs h = h

  pub unfiltered : (xs : List A) (rank : ℕ) (x : A) → slice_get (filter p xs) rank ≡ Some x → IsPassed xs rank x
  unfiltered [] rank x h = absurd (none-some _ h)
  unfiltered (y ∷ xs) rank x h = by (p y) refl rank h (unfiltered xs)
    where
      by : (b : Bool) → p y ≡ b → (k : ℕ) → slice_get (cond b (y ∷ filter p xs) (filter p xs)) k ≡ Some x
          → ((n : ℕ) (z : A) → slice_get (filter p xs) n ≡ Some z → IsPassed xs n z) → IsPassed (y ∷ xs) k x
      by true t zero at later = record { place = 0; at = at; before = refl; passes = ap p (sym (same_Some _ _ at)) ∙ t }
      by true t (suc k) at later = one_later y xs k (suc k) x true t refl (later k x at)
      by false t k at later = one_later y xs k k x false t refl (later k x at)
