-- The specialized rows fit the values in which a value's fields stand for the value, and the default rows those in
-- which another value does.
use Rattle.std.proofs.Common.{◌≡◌, ℕ, suc, ◌<◌, Bool, true, false, not, ◌&&◌, ◌||◌, List, [], ◌∷◌, ◌++◌, length, Option}
use Rattle.std.proofs.Common.{Some, slice_get, nat_eq, nat_lt, refl, sym, ap, ◌∙◌, arith, inl, inr}
use Rattle.std.proofs.Math.Bool.{and-false}
use Rattle.std.proofs.lemmas.Bool.{and_parts, eqb-true, ltb-true, or_parts, or_right}
use Rattle.std.proofs.lemmas.Bool.Decides.{eqb_tells}
use Rattle.std.proofs.lemmas.List.{append_assoc, length-append}
use Rattle.pp_prog.specs.declared.expr.Pattern.{Pattern}
use Rattle.pp_prog.specs.declared.value.Value.{Value}
use Rattle.pp_prog.specs.declared.value.Value.TheViews.{out-Value}
use Rattle.pp_prog.specs.Fits.{fits}
use Rattle.pp_cover.specs.declared.constraint.Constraint.{Constraint}
use Rattle.pp_cover.specs.declared.constraint.Head.{Head}
use Rattle.pp_cover.specs.Constraint.{constraints, fields_of, fit_all, head_of, satisfies, placed, row_fits, same_head}
use Rattle.pp_cover.specs.Constraint.{some_satisfies}
use Rattle.pp_cover.specs.Matrix.{admits, any_fits, can_satisfy, default_rows, implies, is_in, keep_if, mentions}
use Rattle.pp_cover.specs.Matrix.{specialized_row, specialized_if, specialized_rows}
use Rattle.pp_cover.proofs.Constraints.{constraints_satisfied}
use Rattle.pp_cover.proofs.Lists.{get_left, get_seam}

-- the row constrains the first n columns alone
abbrev pub row_within : ℕ → List Constraint → Bool
row_within n [] = true
row_within n (d ∷ row) = nat_lt d.column n && row_within n row

abbrev pub rows_within : ℕ → List (List Constraint) → Bool
rows_within n [] = true
rows_within n (row ∷ rows) = row_within n row && rows_within n rows

row_append : (a b : List Constraint) (xs : List Value) → row_fits (a ++ b) xs ≡ row_fits a xs && row_fits b xs
row_append [] b xs = refl
row_append (d ∷ a) b xs =
    ap (λ t. satisfies xs d && t) (row_append a b xs) ∙ by (satisfies xs d) (row_fits a xs) (row_fits b xs)
  where
    by : (p q r : Bool) → p && (q && r) ≡ (p && q) && r
    by true q r = refl
    by false q r = refl

-- what patterns ask of the columns behind others
placed_fit : (ps : List Pattern) (us ws : List Value) (j : ℕ) → j ≡ length us → length ps ≡ length ws →
    row_fits (placed j ps) (us ++ ws) ≡ fit_all ps ws
placed_fit [] us [] j here even = refl
placed_fit [] us (w ∷ ws) j here even = cc
placed_fit (p ∷ ps) us [] j here even = cc
placed_fit (p ∷ ps) us (w ∷ ws) j here even =
    let first = constraints_satisfied p j (us ++ w ∷ ws) w (get_seam us w ws j here) in
    let rest = placed_fit ps (us ++ w ∷ []) ws (suc j) (omega (arith, length-append us (w ∷ []))) (omega arith) in
    row_append (constraints p j) (placed (suc j) ps) (us ++ w ∷ ws)
    ∙ ap (λ t. t && row_fits (placed (suc j) ps) (us ++ w ∷ ws)) first
    ∙ ap (λ t. fits p w && t) (ap (λ xs. row_fits (placed (suc j) ps) xs) (sym (append_assoc us (w ∷ []) ws)) ∙ rest)

uneven : (ps : List Pattern) (ws : List Value) → (length ps ≡ length ws → ⊥) → fit_all ps ws ≡ false
uneven [] [] h = absurd (h refl)
uneven [] (w ∷ ws) h = refl
uneven (p ∷ ps) [] h = refl
uneven (p ∷ ps) (w ∷ ws) h = rw (uneven ps ws (λ e. h (omega arith))) (and-false (fits p w))

-- us and vs are the same in the first n columns but column k
abbrev pub SameBut : ℕ → ℕ → List Value → List Value → Type 0
SameBut n k us vs = (j : ℕ) → j < n → (j ≡ k → ⊥) → slice_get us j ≡ slice_get vs j

-- the value v in column k of vs has the head h, and ws are its fields
pub record Opens (k : ℕ) (h : Head) (ws vs : List Value) (v : Value) : Type 0 where
  pub there : slice_get vs k ≡ Some v
  pub outermost : head_of (out-Value v) ≡ h
  pub inside : fields_of (out-Value v) ≡ ws

apart : (d : Constraint) (k : ℕ) → is_in k d ≡ false → d.column ≡ k → ⊥
apart d k e same = elim (eqb_tells d.column k) [ inl t ↦ let no : true ≡ false = sym t.0 ∙ e in cc | inr f ↦ f.1 same ]

module _ (k n : ℕ) (h : Head) (us ws vs : List Value) (v : Value) (long : n ≡ length us) (opens : Opens k h ws vs v)
    (agree : SameBut n k us vs) where
  opened : (d : Constraint) → is_in k d ≡ true → satisfies vs d ≡ same_head d.head h && fit_all d.fields ws
  opened d e =
      let here : d.column ≡ k = eqb-true d.column k e in
      ap (λ (j : ℕ). some_satisfies (slice_get vs j) d) here ∙ ap (λ (o : Option Value). some_satisfies o d) opens.there
      ∙ ap (λ (g : Head). same_head d.head g && fit_all d.fields (fields_of (out-Value v))) opens.outermost
      ∙ ap (λ (l : List Value). same_head d.head h && fit_all d.fields l) opens.inside

  unopened : (d : Constraint) → is_in k d ≡ false → d.column < n → satisfies (us ++ ws) d ≡ satisfies vs d
  unopened d e lt =
      ap (λ (o : Option Value). some_satisfies o d)
      (get_left us ws d.column (omega (arith, long)) ∙ agree d.column lt (apart d k e))

  row_specialized : (row : List Constraint) → row_within n row ≡ true →
      admits k h (length ws) row && row_fits (specialized_row k n row) (us ++ ws) ≡ row_fits row vs
  row_specialized [] within = refl
  row_specialized (d ∷ row) within =
      let parts = and_parts _ _ within in
      by (is_in k d) refl (row_specialized row parts.1) (ltb-true _ _ parts.0)
    where
      in_column : (s l a p f w r : Bool) → a && f ≡ r → (l ≡ true → p ≡ w) → (l ≡ false → w ≡ false) →
          ((s && l) && a) && (p && f) ≡ (s && w) && r
      in_column true true a p f w r e even odd = rw (even refl) (turn a w f r e)
        where
          turn : (a w f r : Bool) → a && f ≡ r → a && (w && f) ≡ w && r
          turn true true f r e = e
          turn true false f r e = refl
          turn false true f r e = e
          turn false false f r e = refl
      in_column true false a p f w r e even odd = rw (odd refl) refl
      in_column false l a p f w r e even odd = refl

      off_column : (a m f r : Bool) → a && f ≡ r → a && (m && f) ≡ m && r
      off_column true true f r e = e
      off_column true false f r e = refl
      off_column false true f r e = e
      off_column false false f r e = refl

      by : (t : Bool) → is_in k d ≡ t →
          admits k h (length ws) row && row_fits (specialized_row k n row) (us ++ ws) ≡ row_fits row vs → d.column < n →
          (implies t (can_satisfy h (length ws) d) && admits k h (length ws) row) && row_fits
          (specialized_if t n d ++ specialized_row k n row) (us ++ ws) ≡ satisfies vs d && row_fits row vs
      by true e more lt =
          let even : nat_eq (length d.fields) (length ws) ≡ true →
          row_fits (placed n d.fields) (us ++ ws) ≡ fit_all d.fields ws = λ q. placed_fit d.fields us ws n long
          (eqb-true (length d.fields) (length ws) q) in
          let odd : nat_eq (length d.fields) (length ws) ≡ false →
          fit_all d.fields ws ≡ false = λ q. uneven d.fields ws
          (λ same. elim (eqb_tells (length d.fields)
          (length ws)) [ inl x ↦ let no : true ≡ false = sym x.0 ∙ q in cc | inr x ↦ x.1 same ]) in
          rw (row_append (placed n d.fields) (specialized_row k n row) (us ++ ws), opened d e)
          (in_column _ _ _ _ _ _ _ more even odd)
      by false e more lt = rw (unopened d e lt) (off_column _ _ _ _ more)

  kept_fits : (t : Bool) (row : List Constraint) (rows : List (List Constraint)) (xs : List Value) →
      any_fits (keep_if t row rows) xs ≡ (t && row_fits row xs) || any_fits rows xs
  kept_fits true row rows xs = refl
  kept_fits false row rows xs = refl

  -- the specialized rows fit the values with the fields at the end exactly where the rows fit the value with these
  -- fields
  pub rows_specialized : (rows : List (List Constraint)) → rows_within n rows ≡ true →
      any_fits (specialized_rows k h (length ws) n rows) (us ++ ws) ≡ any_fits rows vs
  rows_specialized [] within = refl
  rows_specialized (row ∷ rows) within =
      let parts = and_parts _ _ within in
      kept_fits (admits k h (length ws) row) (specialized_row k n row) (specialized_rows k h (length ws) n rows)
      (us ++ ws)
      ∙ ap (λ t. t || any_fits (specialized_rows k h (length ws) n rows) (us ++ ws)) (row_specialized row parts.0)
      ∙ ap (λ t. row_fits row vs || t) (rows_specialized rows parts.1)

-- no row of these that mentions column k fits
abbrev pub NoneFits : ℕ → List Value → List (List Constraint) → Type 0
NoneFits k vs [] = Unit {0}
NoneFits k vs (row ∷ rows) = (mentions k row ≡ true → row_fits row vs ≡ false) × NoneFits k vs rows

module _ (k n : ℕ) (us vs : List Value) (agree : SameBut n k us vs) where
  unmentioned_fits : (row : List Constraint) → row_within n row ≡ true → mentions k row ≡ false →
      row_fits row us ≡ row_fits row vs
  unmentioned_fits [] within e = refl
  unmentioned_fits (d ∷ row) within e =
      let parts = and_parts _ _ within in
      let apart_from = or_parts (is_in k d) (mentions k row) e in
      let here : slice_get us d.column ≡ slice_get vs d.column = agree d.column (ltb-true _ _ parts.0)
      (apart d k apart_from.0) in
      ap (λ (o : Option Value). some_satisfies o d && row_fits row us) here
      ∙ ap (λ t. satisfies vs d && t) (unmentioned_fits row parts.1 apart_from.1)

  -- the default rows fit the values exactly where the rows fit them with a value in column k that no row names
  pub default_fits : (rows : List (List Constraint)) → rows_within n rows ≡ true → NoneFits k vs rows →
      any_fits (default_rows k rows) us ≡ any_fits rows vs
  default_fits [] within none = refl
  default_fits (row ∷ rows) within none =
      let parts = and_parts _ _ within in
      by (mentions k row) refl (default_fits rows parts.1 none.1) parts.0
    where
      by : (t : Bool) → mentions k row ≡ t → any_fits (default_rows k rows) us ≡ any_fits rows vs →
          row_within n row ≡ true →
          any_fits (keep_if (not t) row (default_rows k rows)) us ≡ row_fits row vs || any_fits rows vs
      by true e more within = more ∙ ap (λ t. t || any_fits rows vs) (sym (none.0 e))
      by false e more within = rw (unmentioned_fits row within e, more) refl

-- what the default rows fit the rows fit
pub default_only : (k : ℕ) (rows : List (List Constraint)) (vs : List Value) →
    any_fits (default_rows k rows) vs ≡ true → any_fits rows vs ≡ true
default_only k [] vs h = h
default_only k (row ∷ rows) vs h = by (mentions k row) (default_only k rows vs) h
  where
    more : (a b c : Bool) → (b ≡ true → c ≡ true) → a || b ≡ true → a || c ≡ true
    more true b c f e = refl
    more false b c f e = f e

    by : (t : Bool) → (any_fits (default_rows k rows) vs ≡ true → any_fits rows vs ≡ true) →
        any_fits (keep_if (not t) row (default_rows k rows)) vs ≡ true → row_fits row vs || any_fits rows vs ≡ true
    by true f e = or_right _ _ (f e)
    by false f e = more _ _ _ f e
