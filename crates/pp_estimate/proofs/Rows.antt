-- Rows of sizes: one size for each datatype of the table.
use Rattle.std.proofs.Common.{◌≡◌, ◌<◌, ◌≤◌, ◌+◌, ℕ, zero, suc, min, List, [], ◌∷◌, ◌++◌, map, length, get_or, inl, inr}
use Rattle.std.proofs.Common.{None, Some, slice_get, refl, sym, ap, ◌∙◌, arith}
use Rattle.std.specs.Prelude.{sum}
use Rattle.std.proofs.lemmas.Bool.Decides.{eqb_tells}
use Rattle.pp_list.specs.Joined.{joined}
use Rattle.pp_prog.specs.declared.id.DataId.{DataId}
use Rattle.pp_prog.specs.declared.sort.Sort.TheVariants as sort
use Rattle.pp_prog.specs.declared.types.Ctor.{Ctor}
use Rattle.pp_prog.specs.declared.types.TypeTable.{TypeTable}
use Rattle.pp_prog.specs.Sizes.{bits, ctors_in, ctors_of, nodes, sorts_in_ctor}
use Rattle.pp_estimate.specs.declared.sizes.Size.{Size}
use Rattle.pp_estimate.specs.Bounds.{AreRows, full_row, row, size}
use Rattle.pp_estimate.specs.Cut.{cut}
use Rattle.pp_estimate.proofs.Sums.{of}

module _ {A : Type 0} where
  past : (xs : List A) (i : ℕ) → length xs ≤ i → slice_get xs i ≡ None
  past [] i le = refl
  past (x ∷ xs) zero le = absurd (omega arith)
  past (x ∷ xs) (suc i) le = past xs i (omega arith)

  push_length : (xs : List A) (x : A) → length (xs ++ x ∷ []) ≡ suc (length xs)
  push_length [] x = refl
  push_length (y ∷ xs) x = ap suc (push_length xs x)

  push_last : (xs : List A) (x z : A) (i : ℕ) → i ≡ length xs → get_or (xs ++ x ∷ []) i z ≡ x
  push_last [] x z zero e = refl
  push_last [] x z (suc i) e = absurd (omega (arith, e))
  push_last (y ∷ xs) x z zero e = absurd (omega (arith, e))
  push_last (y ∷ xs) x z (suc i) e = push_last xs x z i (omega (arith, e))

  push_before : (xs : List A) (x z : A) (i : ℕ) → i < length xs → get_or (xs ++ x ∷ []) i z ≡ get_or xs i z
  push_before [] x z i lt = absurd (omega arith)
  push_before (y ∷ xs) x z zero lt = refl
  push_before (y ∷ xs) x z (suc i) lt = push_before xs x z i (omega arith)

module _ (types : TypeTable) where
  pub rows_none : AreRows types []
  rows_none = record { each = none_each }
    where
      none_each : (h : ℕ) (r : List Size) → slice_get [] h ≡ Some r → r ≡ full_row types h
      none_each h r is = let no : None ≡ Some r = is in cc

module _ (types : TypeTable) (h : ℕ) where
  pub row_length : (n : ℕ) → length (row types h n) ≡ n
  row_length zero = refl
  row_length (suc n) = push_length (row types h n) (size types h (sort.Tree (record { 0 = n }))) ∙ ap suc (row_length n)

  -- the size of a datatype stands at its place
  pub row_at : (n d : ℕ) (z : Size) → d < n → get_or (row types h n) d z ≡ size types h (sort.Tree (record { 0 = d }))
  row_at zero d z lt = absurd (omega arith)
  row_at (suc n) d z lt =
      let here = size types h (sort.Tree (record { 0 = n })) in
      let long = row_length n in
      elim (eqb_tells d n) [
        | inl e ↦ push_last (row types h n) here z d (e.1 ∙ sym long)
            ∙ ap (λ (k : ℕ). size types h (sort.Tree (record { 0 = k }))) (sym e.1)
        | inr ne ↦ let low : d < n = omega (arith, ne.1) in push_before (row types h n) here z d (omega (arith, long))
            ∙ row_at n d z low
      ]

-- what is no datatype has nothing in it
pub size_beyond : (types : TypeTable) (h : ℕ) (d : DataId) → length types.datatypes ≤ d.0
    → of 0 (min h 1) ≡ size types h (sort.Tree d)
size_beyond types zero d le = refl
size_beyond types (suc h) d le =
    let none : ctors_of types d ≡ [] = ap (ctors_in types.ctors) (past types.datatypes d.0 le) in
    let one : min (suc h) 1 ≡ 1 = omega arith in
    ap (of 0) one
    ∙ ap (λ (l : List Ctor). of (cut (length l + sum (map (bits types h) (joined (map sorts_in_ctor l)))))
    (cut (1 + sum (map (nodes types h) (joined (map sorts_in_ctor l)))))) (sym none)
