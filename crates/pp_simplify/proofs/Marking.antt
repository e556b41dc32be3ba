-- Marks on numbers, set one after another.
use Rattle.std.proofs.Common.{◌≡◌, ◌⊎◌, ℕ, zero, suc, ◌<◌, Bool, true, false, List, [], ◌∷◌, ◌++◌, length}
use Rattle.std.proofs.Common.{slice_index_or, slice_set, Contains, replicate, refl, sym, ap, ◌∙◌, inl, inr, arith}
use Rattle.std.proofs.Common.{subst}
use Rattle.std.proofs.lemmas.Bool.{false≢true}
use Rattle.pp_simplify.specs.Marks.{Marks, is_marked}

-- ---- one mark

set_len : (ms : List Bool) (g : ℕ) → length (slice_set ms g true) ≡ length ms
set_len [] g = refl
set_len (b ∷ ms) zero = refl
set_len (b ∷ ms) (suc g) = ap suc (set_len ms g)

set_here : (ms : List Bool) (g : ℕ) → g < length ms → is_marked (slice_set ms g true) g ≡ true
set_here [] g lt = absurd (omega arith)
set_here (b ∷ ms) zero lt = refl
set_here (b ∷ ms) (suc g) lt = set_here ms g (omega arith)

set_stays : (ms : List Bool) (g k : ℕ) → is_marked ms k ≡ true → is_marked (slice_set ms g true) k ≡ true
set_stays [] g k h = h
set_stays (b ∷ ms) zero zero h = refl
set_stays (b ∷ ms) zero (suc k) h = h
set_stays (b ∷ ms) (suc g) zero h = h
set_stays (b ∷ ms) (suc g) (suc k) h = set_stays ms g k h

set_only : (ms : List Bool) (g k : ℕ) → is_marked (slice_set ms g true) k ≡ true → (is_marked ms k ≡ true) ⊎ (g ≡ k)
set_only [] g k h = inl h
set_only (b ∷ ms) zero zero h = inr refl
set_only (b ∷ ms) zero (suc k) h = inl h
set_only (b ∷ ms) (suc g) zero h = inl h
set_only (b ∷ ms) (suc g) (suc k) h = elim (set_only ms g k h) [ inl a ↦ inl a | inr b ↦ inr (ap suc b) ]

one_of : (g k : ℕ) → Contains (g ∷ []) k → g ≡ k
one_of g k (zero, lt, e) = e
one_of g k (suc i, lt, e) = absurd (omega arith)

pub marks_one : (old new : List Bool) (g : ℕ) → g < length old → new ≡ slice_set old g true → Marks old new (g ∷ [])
marks_one old new g lt e = subst (λ ms. Marks old ms (g ∷ [])) (sym e) (record {
  len = set_len old g;
  stays = set_stays old g;
  these = λ k c. subst (λ n. is_marked (slice_set old g true) n ≡ true) (one_of g k c) (set_here old g lt);
  only = λ k h. elim (set_only old g k h) [ inl a ↦ inl a | inr b ↦ inr (0, omega arith, b) ];
})

-- ---- several marks

contains_right : (xs ys : List ℕ) (k : ℕ) → Contains ys k → Contains (xs ++ ys) k
contains_right [] ys k c = c
contains_right (x ∷ xs) ys k c = let d = contains_right xs ys k c in (suc d.0, omega (arith, d.1), d.2)

contains_left : (xs ys : List ℕ) (k : ℕ) → Contains xs k → Contains (xs ++ ys) k
contains_left [] ys k c = absurd (omega (arith, c.1))
contains_left (x ∷ xs) ys k (zero, lt, e) = (zero, omega arith, e)
contains_left (x ∷ xs) ys k (suc i, lt, e) = let d = contains_left xs ys k (i, omega arith, e) in
    (suc d.0, omega (arith, d.1), d.2)

contains_either : (xs ys : List ℕ) (k : ℕ) → Contains (xs ++ ys) k → Contains xs k ⊎ Contains ys k
contains_either [] ys k c = inr c
contains_either (x ∷ xs) ys k (zero, lt, e) = inl (zero, omega arith, e)
contains_either (x ∷ xs) ys k (suc i, lt, e) =
    elim (contains_either xs ys k (i, omega arith, e))
    [ inl c ↦ inl (suc c.0, omega (arith, c.1), c.2) | inr c ↦ inr c ]

pub marks_none : (ms : List Bool) → Marks ms ms []
marks_none ms = record {
  len = refl;
  stays = λ k h. h;
  these = λ k c. absurd (omega (arith, c.1));
  only = λ k h. inl h;
}

pub marks_more : (a b c : List Bool) (xs ys : List ℕ) → Marks a b xs → Marks b c ys → Marks a c (xs ++ ys)
marks_more a b c xs ys f g = record {
  len = g.len ∙ f.len;
  stays = λ k h. g.stays k (f.stays k h);
  these = λ k at. elim (contains_either xs ys k at) [ inl p ↦ g.stays k (f.these k p) | inr p ↦ g.these k p ];
  only = λ k h. elim (g.only k h) [
    | inl p ↦ elim (f.only k p) [ inl q ↦ inl q | inr q ↦ inr (contains_left xs ys k q) ]
    | inr p ↦ inr (contains_right xs ys k p)
  ];
}

-- nothing is marked in the beginning
pub none_marked : (n k : ℕ) → is_marked (replicate n false) k ≡ true → ⊥
none_marked zero k h = absurd (false≢true h)
none_marked (suc n) zero h = absurd (false≢true h)
none_marked (suc n) (suc k) h = none_marked n k h

-- the mark that the code read at a place
pub mark_read : (ms : List Bool) (k : ℕ) (b : Bool) → k < length ms → b ≡ slice_index_or ms k b → is_marked ms k ≡ b
mark_read [] k b lt e = absurd (omega arith)
mark_read (m ∷ ms) zero b lt e = sym e
mark_read (m ∷ ms) (suc k) b lt e = mark_read ms k b (omega arith) e
