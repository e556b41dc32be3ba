-- The parts of a well-formed matrix are well-formed.
use Rattle.std.proofs.Common.{◌≡◌, ℕ, suc, ◌+◌, ◌<◌, ◌≤◌, ◌^◌, Bool, true, false, not, ◌||◌, List, [], ◌∷◌, ◌++◌}
use Rattle.std.proofs.Common.{length, Option, Some, None, slice_get, nat_eq, nat_lt, refl, sym, ap, ◌∙◌, subst, arith}
use Rattle.std.proofs.lemmas.Bool.{and_from, and_parts, eqb-true, lt-ltb, ltb-true}
use Rattle.std.proofs.lemmas.List.{length-append}
use Rattle.std.proofs.lemmas.List.Folds.{list_all-append}
use Rattle.std.specs.List.{list_all}
use Rattle.pp_list.proofs.With.{With}
use Rattle.pp_prog.proofs.Induction.{each_pattern, pattern_under}
use Rattle.pp_prog.specs.declared.expr.Pattern.{Pattern}
use Rattle.pp_prog.specs.declared.expr.Pattern.TheFolds.{map-Pattern, para-roll-Pattern}
use Rattle.pp_prog.specs.declared.expr.Pattern.TheOpen as pattern
use Rattle.pp_prog.specs.declared.expr.Pattern.TheViews.{roll-Pattern}
use Rattle.pp_prog.specs.declared.sort.Sort.{Sort}
use Rattle.pp_prog.specs.declared.sort.Sort.TheVariants as sort
use Rattle.pp_prog.specs.declared.types.Ctor.{Ctor}
use Rattle.pp_prog.specs.declared.types.TypeTable.{TypeTable}
use Rattle.pp_prog.specs.Table.{is_sort}
use Rattle.pp_cover.specs.declared.constraint.Constraint.{Constraint}
use Rattle.pp_cover.specs.declared.constraint.Head.{Head}
use Rattle.pp_cover.specs.declared.constraint.Head.TheVariants as head
use Rattle.pp_cover.specs.declared.matrix.Matrix.{Matrix}
use Rattle.pp_cover.specs.Constraint.{Constraining, constraint_step, constraints, placed, same_head}
use Rattle.pp_cover.specs.Matrix.{admits, any_mentions, can_satisfy, default_matrix, default_rows, implies, is_in}
use Rattle.pp_cover.specs.Matrix.{keep_if, mentions, names, specialize, specialized_row, specialized_if}
use Rattle.pp_cover.specs.Matrix.{specialized_rows}
use Rattle.pp_cover.specs.Split.{block_of, ctor_head, first_of, named_parts, parts, parts_by}
use Rattle.pp_cover.proofs.Specialize.{row_within, rows_within}
use Rattle.pp_cover.proofs.Constraints.{with_constraints}
use Rattle.pp_cover.proofs.Blocks.{AreCtorsOf, stands}

abbrev Inside : Pattern → Type 0
Inside p = (j n : ℕ) → j < n → row_within n (constraints p j) ≡ true

layer_inside : (y : pattern.Pattern-F (With Inside)) (j n : ℕ) → j < n →
    let z = pattern_under y in row_within n
    (constraint_step (map-Pattern Pattern (Pattern × Constraining) with_constraints z) j) ≡ true
layer_inside pattern.Any j n lt = refl
layer_inside (pattern.Bind o) j n lt = o.1 j n lt
layer_inside (pattern.Int i) j n lt = and_from (nat_lt j n) true (lt-ltb j n lt) refl
layer_inside (pattern.Bool b) j n lt = and_from (nat_lt j n) true (lt-ltb j n lt) refl
layer_inside (pattern.Ctor c os) j n lt = and_from (nat_lt j n) true (lt-ltb j n lt) refl

at_pattern : (y : pattern.Pattern-F (With Inside)) → Inside (roll-Pattern (pattern_under y))
at_pattern y j n lt =
    let z = pattern_under y in
    ap (λ (f : Constraining). row_within n (f j)) (para-roll-Pattern Constraining constraint_step z)
    ∙ layer_inside y j n lt

pub constraints_within : (p : Pattern) → Inside p
constraints_within = each_pattern Inside at_pattern

within_append : (n : ℕ) (a b : List Constraint) → row_within n a ≡ true → row_within n b ≡ true →
    row_within n (a ++ b) ≡ true
within_append n [] b p q = q
within_append n (d ∷ a) b p q =
    let parts = and_parts (nat_lt d.column n) (row_within n a) p in
    and_from (nat_lt d.column n) (row_within n (a ++ b)) parts.0 (within_append n a b parts.1 q)

placed_within : (ps : List Pattern) (j n : ℕ) → j + length ps ≤ n → row_within n (placed j ps) ≡ true
placed_within [] j n le = refl
placed_within (p ∷ ps) j n le =
    within_append n (constraints p j) (placed (suc j) ps) (constraints_within p j n (omega (arith, le)))
    (placed_within ps (suc j) n (omega (arith, le)))

specialized_within : (k : ℕ) (h : Head) (a n : ℕ) (row : List Constraint) → row_within n row ≡ true →
    admits k h a row ≡ true → row_within (n + a) (specialized_row k n row) ≡ true
specialized_within k h a n [] within admitted = refl
specialized_within k h a n (d ∷ row) within admitted =
    let inside = and_parts (nat_lt d.column n) (row_within n row) within in
    let satisfies = and_parts (implies (is_in k d) (can_satisfy h a d)) (admits k h a row) admitted in
    within_append (n + a) (specialized_if (is_in k d) n d) (specialized_row k n row)
    (by (is_in k d) satisfies.0 (ltb-true _ _ inside.0)) (specialized_within k h a n row inside.1 satisfies.1)
  where
    by : (t : Bool) → implies t (can_satisfy h a d) ≡ true → d.column < n →
        row_within (n + a) (specialized_if t n d) ≡ true
    by true m lt =
        let even = eqb-true (length d.fields) a (and_parts (same_head d.head h) (nat_eq (length d.fields) a) m).1 in
        placed_within d.fields n (n + a) (omega (arith, even))
    by false m lt = and_from (nat_lt d.column (n + a)) true (lt-ltb d.column (n + a) (omega (arith, lt))) refl

specialized_rows_within : (k : ℕ) (h : Head) (a n : ℕ) (rows : List (List Constraint)) → rows_within n rows ≡ true →
    rows_within (n + a) (specialized_rows k h a n rows) ≡ true
specialized_rows_within k h a n [] within = refl
specialized_rows_within k h a n (row ∷ rows) within =
    let inside = and_parts (row_within n row) (rows_within n rows) within in
    by (admits k h a row) refl inside.0 (specialized_rows_within k h a n rows inside.1)
  where
    by : (t : Bool) → admits k h a row ≡ t → row_within n row ≡ true →
        rows_within (n + a) (specialized_rows k h a n rows) ≡ true →
        rows_within (n + a) (keep_if t (specialized_row k n row) (specialized_rows k h a n rows)) ≡ true
    by true e within more = and_from _ _ (specialized_within k h a n row within e) more
    by false e within more = more

default_rows_within : (k n : ℕ) (rows : List (List Constraint)) → rows_within n rows ≡ true →
    rows_within n (default_rows k rows) ≡ true
default_rows_within k n [] within = refl
default_rows_within k n (row ∷ rows) within =
    let inside = and_parts (row_within n row) (rows_within n rows) within in
    by (mentions k row) inside.0 (default_rows_within k n rows inside.1)
  where
    by : (t : Bool) → row_within n row ≡ true → rows_within n (default_rows k rows) ≡ true →
        rows_within n (keep_if (not t) row (default_rows k rows)) ≡ true
    by true within more = more
    by false within more = and_from _ _ within more

specialized_rows_few : (k : ℕ) (h : Head) (a n : ℕ) (rows : List (List Constraint)) →
    length (specialized_rows k h a n rows) ≤ length rows
specialized_rows_few k h a n [] = omega arith
specialized_rows_few k h a n (row ∷ rows) = by (admits k h a row) (specialized_rows_few k h a n rows)
  where
    by : (t : Bool) → length (specialized_rows k h a n rows) ≤ length rows →
        length (keep_if t (specialized_row k n row) (specialized_rows k h a n rows)) ≤ length (row ∷ rows)
    by true le = omega (arith, le)
    by false le = omega (arith, le)

default_rows_few : (k : ℕ) (rows : List (List Constraint)) → length (default_rows k rows) ≤ length rows
default_rows_few k [] = omega arith
default_rows_few k (row ∷ rows) = by (mentions k row) (default_rows_few k rows)
  where
    by : (t : Bool) → length (default_rows k rows) ≤ length rows →
        length (keep_if (not t) row (default_rows k rows)) ≤ length (row ∷ rows)
    by true le = omega (arith, le)
    by false le = omega (arith, le)

-- the column that a row mentions is one of the matrix
pub mentioned_within : (k n : ℕ) (rows : List (List Constraint)) → rows_within n rows ≡ true →
    any_mentions k rows ≡ true → k < n
mentioned_within k n [] within m = cc
mentioned_within k n (row ∷ rows) within m =
    let inside = and_parts (row_within n row) (rows_within n rows) within in
    by (mentions k row) refl m (mentioned_within k n rows inside.1) inside.0
  where
    in_row : (row : List Constraint) → row_within n row ≡ true → mentions k row ≡ true → k < n
    in_row [] within m = cc
    in_row (d ∷ row) within m =
        let inside = and_parts (nat_lt d.column n) (row_within n row) within in
        here (is_in k d) refl m (ltb-true _ _ inside.0) (in_row row inside.1)
      where
        here : (t : Bool) → is_in k d ≡ t → t || mentions k row ≡ true → d.column < n →
            (mentions k row ≡ true → k < n) → k < n
        here true e m lt more = omega (arith, eqb-true d.column k e, lt)
        here false e m lt more = more m

    by : (t : Bool) → mentions k row ≡ t → t || any_mentions k rows ≡ true → (any_mentions k rows ≡ true → k < n) →
        row_within n row ≡ true → k < n
    by true e m more within = in_row row within e
    by false e m more within = more m

-- the matrix has sorts in range, constraints on its own columns alone, and fewer than 2^16 rows
pub record WellFormed (table : TypeTable) (m : Matrix) : Type 0 where
  pub in_range : list_all (is_sort table.datatypes) m.sorts ≡ true
  pub within : rows_within (length m.sorts) m.rows ≡ true
  pub few : length m.rows < 2 ^ 16

abbrev pub AllWellFormed : TypeTable → List Matrix → Type 0
AllWellFormed table [] = Unit {0}
AllWellFormed table (m ∷ ms) = WellFormed table m × AllWellFormed table ms

pub all_well_formed_append : (table : TypeTable) (xs ys : List Matrix) → AllWellFormed table xs →
    AllWellFormed table ys → AllWellFormed table (xs ++ ys)
all_well_formed_append table [] ys a b = b
all_well_formed_append table (x ∷ xs) ys a b = (a.0, all_well_formed_append table xs ys a.1 b)

pub all_well_formed_parts : (table : TypeTable) (xs ys : List Matrix) → AllWellFormed table (xs ++ ys) →
    AllWellFormed table xs × AllWellFormed table ys
all_well_formed_parts table [] ys a = (tt, a)
all_well_formed_parts table (x ∷ xs) ys a = let more = all_well_formed_parts table xs ys a.1 in ((a.0, more.0), more.1)

module _ (table : TypeTable) (m : Matrix) (k : ℕ) (well_formed : WellFormed table m) where
  specialize_well_formed : (h : Head) (fields : List Sort) → list_all (is_sort table.datatypes) fields ≡ true →
      WellFormed table (specialize m k h fields)
  specialize_well_formed h fields in_range = record {
    in_range = list_all-append (is_sort table.datatypes) m.sorts fields ∙ and_from _ _ well_formed.in_range in_range;
    within =
        subst (λ (n : ℕ). rows_within n (specialized_rows k h (length fields) (length m.sorts) m.rows) ≡ true)
        (sym (length-append m.sorts fields))
        (specialized_rows_within k h (length fields) (length m.sorts) m.rows well_formed.within);
    few = omega (arith, well_formed.few, specialized_rows_few k h (length fields) (length m.sorts) m.rows);
  }

  default_well_formed : WellFormed table (default_matrix m k)
  default_well_formed = record {
    in_range = well_formed.in_range;
    within = default_rows_within k (length m.sorts) m.rows well_formed.within;
    few = omega (arith, well_formed.few, default_rows_few k m.rows);
  }

  named_well_formed : (d c : ℕ) (xs : List Ctor) → AreCtorsOf table.ctors d c xs →
      AllWellFormed table (named_parts m k c xs)
  named_well_formed d c [] st = tt
  named_well_formed d c (x ∷ xs) st = by (names k (ctor_head c) m.rows) (named_well_formed d (suc c) xs st.2)
    where
      by : (t : Bool) → AllWellFormed table (named_parts m k (suc c) xs) →
          AllWellFormed table (keep_if t (specialize m k (ctor_head c) x.fields) (named_parts m k (suc c) xs))
      by true more = (specialize_well_formed (ctor_head c) x.fields (table.agree.fields c x st.0), more)
      by false more = more

  default_if_well_formed : (t : Bool) → AllWellFormed table (keep_if t (default_matrix m k) [])
  default_if_well_formed true = (default_well_formed, tt)
  default_if_well_formed false = tt

  pub parts_well_formed : AllWellFormed table (parts table m k)
  parts_well_formed = by (slice_get m.sorts k)
    where
      by : (o : Option Sort) → AllWellFormed table (parts_by m k table o)
      by None = tt
      by (Some sort.Int) = (default_well_formed, tt)
      by (Some sort.Bool) =
          (specialize_well_formed (head.Bool true) [] refl, (specialize_well_formed (head.Bool false) [] refl, tt))
      by (Some (sort.Tree d)) =
          let o = slice_get table.datatypes d.0 in
          let named = named_parts m k (first_of o) (block_of table.ctors o) in
          all_well_formed_append table named _
          (named_well_formed d.0 (first_of o) (block_of table.ctors o) (stands table d o refl))
          (default_if_well_formed (nat_lt (length named) (length (block_of table.ctors o))))
