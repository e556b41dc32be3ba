-- A value whose head no row names fits no row that mentions its column. Some number is such a value, since there are
-- more numbers than rows.
use Rattle.std.proofs.Common.{◌≡◌, ℕ, zero, suc, ◌+◌, ◌≤◌, ℤ, pos, Bool, true, false, ◌&&◌, ◌||◌, List, [], ◌∷◌, map}
use Rattle.std.proofs.Common.{length, Option, Some, slice_get, refl, sym, ap, ◌∙◌, arith}
use Rattle.std.proofs.Math.Bool.{and-false}
use Rattle.std.proofs.lemmas.Bool.{eqb-true, or_parts}
use Rattle.std.proofs.lemmas.Bool.Decides.{Decides-int_eq}
use Rattle.std.proofs.lemmas.Int.{ints}
use Rattle.std.proofs.lemmas.List.{length-map}
use Rattle.std.specs.Ordering.{int_eq}
use Rattle.pp_prog.specs.declared.value.Value.{Value}
use Rattle.pp_prog.specs.declared.value.Value.TheViews.{out-Value}
use Rattle.pp_cover.specs.declared.constraint.Constraint.{Constraint}
use Rattle.pp_cover.specs.declared.constraint.Head.{Head}
use Rattle.pp_cover.specs.declared.constraint.Head.TheVariants as head
use Rattle.pp_cover.specs.Constraint.{fields_of, fit_all, head_of, satisfies, row_fits, same_head, some_satisfies}
use Rattle.pp_cover.specs.Matrix.{is_in, mentions, names, names_in_row}
use Rattle.pp_cover.proofs.Specialize.{NoneFits}

pub int_same : (a b : ℤ) → int_eq a b ≡ true → a ≡ b
int_same a b e = grind (arith, Decides-int_eq a b)

pub int_apart : (a b : ℤ) → int_eq a b ≡ false → a ≡ b → ⊥
int_apart a b e same = grind (arith, Decides-int_eq a b)

abbrev has_int : ℤ → List ℤ → Bool
has_int n [] = false
has_int n (x ∷ xs) = int_eq x n || has_int n xs

abbrev drop_if : Bool → ℤ → List ℤ → List ℤ → List ℤ
drop_if true x xs ys = xs
drop_if false x xs ys = x ∷ ys

abbrev drop_first : ℤ → List ℤ → List ℤ
drop_first n [] = []
drop_first n (x ∷ xs) = drop_if (int_eq x n) x xs (drop_first n xs)

drop_first_shorter : (n : ℤ) (xs : List ℤ) → has_int n xs ≡ true → length (drop_first n xs) + 1 ≡ length xs
drop_first_shorter n [] h = cc
drop_first_shorter n (x ∷ xs) h = by (int_eq x n) h (drop_first_shorter n xs)
  where
    by : (t : Bool) → t || has_int n xs ≡ true → (has_int n xs ≡ true → length (drop_first n xs) + 1 ≡ length xs) →
        length (drop_if t x xs (drop_first n xs)) + 1 ≡ length (x ∷ xs)
    by true h more = omega arith
    by false h more = omega (arith, more h)

drop_first_absent : (n m : ℤ) (xs : List ℤ) → (m ≡ n → ⊥) → has_int m (drop_first n xs) ≡ false → has_int m xs ≡ false
drop_first_absent n m [] apart h = refl
drop_first_absent n m (x ∷ xs) apart h = by (int_eq x n) (int_same x n) h (drop_first_absent n m xs apart)
  where
    other : (t : Bool) → (t ≡ true → x ≡ m) → x ≡ n → has_int m xs ≡ false → t || has_int m xs ≡ false
    other true is same h = absurd (apart (sym (is refl) ∙ same))
    other false is same h = h

    rest : (t : Bool) → (has_int m (drop_first n xs) ≡ false → has_int m xs ≡ false) →
        t || has_int m (drop_first n xs) ≡ false → t || has_int m xs ≡ false
    rest true more h = cc
    rest false more h = more h

    by : (t : Bool) → (t ≡ true → x ≡ n) → has_int m (drop_if t x xs (drop_first n xs)) ≡ false →
        (has_int m (drop_first n xs) ≡ false → has_int m xs ≡ false) → int_eq x m || has_int m xs ≡ false
    by true is h more = other (int_eq x m) (int_same x m) (is refl) h
    by false is h more = rest (int_eq x m) more h

-- one of more numbers than the list is long isn't in the list
fresh_int : (most : ℕ) (xs : List ℤ) → length xs ≤ most → (n : ℕ) × (n ≤ most) × (has_int (pos n) xs ≡ false)
fresh_int zero [] few = (0, omega arith, refl)
fresh_int zero (x ∷ xs) few = absurd (omega arith)
fresh_int (suc most) xs few = by (has_int (pos (suc most)) xs) refl (fresh_int most (drop_first (pos (suc most)) xs))
  where
    by : (t : Bool) → has_int (pos (suc most)) xs ≡ t →
        (length (drop_first (pos (suc most)) xs) ≤ most → (n : ℕ) × (n ≤ most) ×
        (has_int (pos n) (drop_first (pos (suc most)) xs) ≡ false)) → (n : ℕ) × (n ≤ suc most) × (has_int
        (pos n) xs ≡ false)
    by false e more = (suc most, omega arith, e)
    by true e more =
        let found = more (omega (arith, drop_first_shorter (pos (suc most)) xs e)) in (
          found.0,
          omega (arith, found.1),
          drop_first_absent (pos (suc most)) (pos found.0) xs
              (λ (same : pos found.0 ≡ pos (suc most)). omega (arith, ints, found.1)) found.2,
        )

abbrev int_in : Head → ℤ
int_in (head.Int n) = n
int_in (head.Bool b) = pos 0
int_in (head.Tree c) = pos 0

abbrev int_if : Bool → ℤ → ℤ → ℤ
int_if true n m = n
int_if false n m = m

-- the number that the row's first constraint in column k names
abbrev row_int : ℕ → List Constraint → ℤ
row_int k [] = pos 0
row_int k (d ∷ row) = int_if (is_in k d) (int_in d.head) (row_int k row)

module _ (k : ℕ) (vs : List Value) (v : Value) (there : slice_get vs k ≡ Some v) where
  satisfies_here : (d : Constraint) → is_in k d ≡ true →
      satisfies vs d ≡ same_head d.head (head_of (out-Value v)) && fit_all d.fields (fields_of (out-Value v))
  satisfies_here d e =
      ap (λ (j : ℕ). some_satisfies (slice_get vs j) d) (eqb-true d.column k e)
      ∙ ap (λ (o : Option Value). some_satisfies o d) there

  -- a row doesn't fit whose first constraint in column k names another number
  other_int : (n : ℤ) → head_of (out-Value v) ≡ head.Int n → (row : List Constraint) →
      int_eq (row_int k row) n ≡ false → mentions k row ≡ true → row_fits row vs ≡ false
  other_int n is [] other m = cc
  other_int n is (d ∷ row) other m = by (is_in k d) refl other m (other_int n is row)
    where
      never : (h : Head) → int_eq (int_in h) n ≡ false → same_head h (head.Int n) ≡ false
      never (head.Int a) e = e
      never (head.Bool a) e = refl
      never (head.Tree a) e = refl

      by : (t : Bool) → is_in k d ≡ t → int_eq (int_if t (int_in d.head) (row_int k row)) n ≡ false →
          t || mentions k row ≡ true →
          (int_eq (row_int k row) n ≡ false → mentions k row ≡ true → row_fits row vs ≡ false) →
          satisfies vs d && row_fits row vs ≡ false
      by true e other m more =
          rw (satisfies_here d e)
          (ap (λ (g : Head). (same_head d.head g && fit_all d.fields (fields_of (out-Value v))) && row_fits row vs)
          is ∙ rw (never d.head other) refl)
      by false e other m more = rw (more other m) (and-false (satisfies vs d))

  others_int : (n : ℤ) → head_of (out-Value v) ≡ head.Int n → (rows : List (List Constraint)) →
      has_int n (map (row_int k) rows) ≡ false → NoneFits k vs rows
  others_int n is [] absent = tt
  others_int n is (row ∷ rows) absent =
      let parts = or_parts (int_eq (row_int k row) n) (has_int n (map (row_int k) rows)) absent in
      (other_int n is row parts.0, others_int n is rows parts.1)

  unnamed_row : (h : Head) → head_of (out-Value v) ≡ h → (row : List Constraint) → names_in_row k h row ≡ false →
      mentions k row ≡ true → row_fits row vs ≡ false
  unnamed_row h is [] unnamed m = cc
  unnamed_row h is (d ∷ row) unnamed m = by (is_in k d) refl unnamed m (unnamed_row h is row)
    where
      by : (t : Bool) → is_in k d ≡ t → (t && same_head d.head h) || names_in_row k h row ≡ false →
          t || mentions k row ≡ true →
          (names_in_row k h row ≡ false → mentions k row ≡ true → row_fits row vs ≡ false) →
          satisfies vs d && row_fits row vs ≡ false
      by true e other m more =
          rw (satisfies_here d e)
          (ap (λ (g : Head). (same_head d.head g && fit_all d.fields (fields_of (out-Value v))) && row_fits row vs)
          is ∙ rw (or_parts (same_head d.head h) (names_in_row k h row) other).0 refl)
      by false e other m more = rw (more other m) (and-false (satisfies vs d))

  -- no row fits that mentions column k, where no row names the head of the value there
  pub unnamed_none : (h : Head) → head_of (out-Value v) ≡ h → (rows : List (List Constraint)) → names k h rows ≡ false →
      NoneFits k vs rows
  unnamed_none h is [] unnamed = tt
  unnamed_none h is (row ∷ rows) unnamed =
      let parts = or_parts (names_in_row k h row) (names k h rows) unnamed in
      (unnamed_row h is row parts.0, unnamed_none h is rows parts.1)

-- some number, not past the number of rows, fits no row that mentions column k
pub fresh_none : (k : ℕ) (rows : List (List Constraint)) →
    (n : ℕ) × (n ≤ length rows) ×
    ((vs : List Value) (v : Value) → slice_get vs k ≡ Some v → head_of (out-Value v) ≡ head.Int
    (pos n) → NoneFits k vs rows)
fresh_none k rows =
    let found = fresh_int (length rows) (map (row_int k) rows) (omega (arith, length-map rows (row_int k))) in
    (found.0, found.1, λ vs v there is. others_int k vs v there (pos found.0) is rows found.2)
