-- How many constraints patterns, rows and matrices have, and that the parts of a matrix have fewer.
use Rattle.std.proofs.Common.{◌≡◌, ℕ, zero, suc, ◌+◌, ◌<◌, ◌≤◌, Bool, true, false, not, ◌||◌, List, [], ◌∷◌, ◌++◌, map}
use Rattle.std.proofs.Common.{length, drop, Option, Some, None, slice_get, nat_lt, refl, sym, ap, ◌∙◌, subst, arith}
use Rattle.std.proofs.lemmas.List.{length-append, length-drop, length-take}
use Rattle.pp_list.proofs.With.{With, elements}
use Rattle.pp_prog.proofs.Induction.{each_pattern, pattern_under}
use Rattle.pp_prog.specs.declared.expr.Pattern.{Pattern}
use Rattle.pp_prog.specs.declared.expr.Pattern.TheFolds.{fold-Pattern, fold-roll-Pattern, map-Pattern}
use Rattle.pp_prog.specs.declared.expr.Pattern.TheFolds.{para-roll-Pattern}
use Rattle.pp_prog.specs.declared.expr.Pattern.TheOpen as pattern
use Rattle.pp_prog.specs.declared.expr.Pattern.TheViews.{roll-Pattern}
use Rattle.pp_prog.specs.declared.sort.Sort.{Sort}
use Rattle.pp_prog.specs.declared.sort.Sort.TheVariants as sort
use Rattle.pp_prog.specs.declared.types.Ctor.{Ctor}
use Rattle.pp_prog.specs.declared.types.Datatype.{Datatype}
use Rattle.pp_prog.specs.declared.types.TypeTable.{TypeTable}
use Rattle.pp_cover.specs.declared.constraint.Constraint.{Constraint}
use Rattle.pp_cover.specs.declared.constraint.Head.{Head}
use Rattle.pp_cover.specs.declared.constraint.Head.TheVariants as head
use Rattle.pp_cover.specs.declared.matrix.Matrix.{Matrix}
use Rattle.pp_cover.specs.Constraint.{Constraining, constraint_of, constraint_step, constraints, placed}
use Rattle.pp_cover.specs.Matrix.{admits, any_mentions, default_matrix, default_rows, is_in, keep_if, mentions, names}
use Rattle.pp_cover.specs.Matrix.{specialize, specialized_row, specialized_if, specialized_rows}
use Rattle.pp_cover.specs.Split.{block_of, ctor_head, first_of, named_parts, parts, parts_by, tree_parts}
use Rattle.pp_cover.proofs.Constraints.{firsts, with_constraints}

abbrev total : List ℕ → ℕ
total [] = 0
total (n ∷ ns) = n + total ns

abbrev size_step : pattern.Pattern-F ℕ → ℕ
size_step pattern.Any = 0
size_step (pattern.Bind n) = n
size_step (pattern.Int n) = 1
size_step (pattern.Bool b) = 1
size_step (pattern.Ctor c ns) = suc (total ns)

-- how many constraints a pattern has, those of its fields included
abbrev size : Pattern → ℕ
size = fold-Pattern ℕ size_step

abbrev weight : Constraint → ℕ
weight d = suc (total (map size d.fields))

abbrev pub row_weight : List Constraint → ℕ
row_weight [] = 0
row_weight (d ∷ row) = weight d + row_weight row

abbrev pub rows_weight : List (List Constraint) → ℕ
rows_weight [] = 0
rows_weight (row ∷ rows) = row_weight row + rows_weight rows

row_weight_append : (a b : List Constraint) → row_weight (a ++ b) ≡ row_weight a + row_weight b
row_weight_append [] b = omega arith
row_weight_append (d ∷ a) b = omega (arith, row_weight_append a b)

abbrev Weighs : Pattern → Type 0
Weighs p = (j : ℕ) → row_weight (constraints p j) ≡ size p

layer_weighs : (y : pattern.Pattern-F (With Weighs)) (j : ℕ) →
    let z = pattern_under y in row_weight
    (constraint_step (map-Pattern Pattern (Pattern × Constraining) with_constraints z) j) ≡ size_step
    (map-Pattern Pattern ℕ size z)
layer_weighs pattern.Any j = refl
layer_weighs (pattern.Bind o) j = o.1 j
layer_weighs (pattern.Int n) j = refl
layer_weighs (pattern.Bool b) j = refl
layer_weighs (pattern.Ctor c os) j =
    let ps = elements os in
    ap (λ qs. row_weight (constraint_of (head.Tree c) qs j)) (firsts ps) ∙ (omega arith)

at_pattern : (y : pattern.Pattern-F (With Weighs)) → Weighs (roll-Pattern (pattern_under y))
at_pattern y j =
    let z = pattern_under y in
    ap (λ (f : Constraining). row_weight (f j)) (para-roll-Pattern Constraining constraint_step z) ∙ layer_weighs y j
    ∙ sym (fold-roll-Pattern ℕ size_step z)

constraints_weigh : (p : Pattern) → Weighs p
constraints_weigh = each_pattern Weighs at_pattern

placed_weigh : (ps : List Pattern) (j : ℕ) → row_weight (placed j ps) ≡ total (map size ps)
placed_weigh [] j = refl
placed_weigh (p ∷ ps) j =
    row_weight_append (constraints p j) (placed (suc j) ps)
    ∙ omega (arith, constraints_weigh p j, placed_weigh ps (suc j))

abbrev one_if : Bool → ℕ
one_if true = 1
one_if false = 0

-- how many constraints a row has in column k
abbrev count : ℕ → List Constraint → ℕ
count k [] = 0
count k (d ∷ row) = one_if (is_in k d) + count k row

mentions_count : (k : ℕ) (row : List Constraint) → mentions k row ≡ true → 1 ≤ count k row
mentions_count k [] m = cc
mentions_count k (d ∷ row) m = by (is_in k d) m (mentions_count k row)
  where
    by : (t : Bool) → t || mentions k row ≡ true → (mentions k row ≡ true → 1 ≤ count k row) →
        1 ≤ one_if t + count k row
    by true m more = omega arith
    by false m more = omega (arith, more m)

unmentioned_count : (k : ℕ) (row : List Constraint) → mentions k row ≡ false → count k row ≡ 0
unmentioned_count k [] m = refl
unmentioned_count k (d ∷ row) m = by (is_in k d) m (unmentioned_count k row)
  where
    by : (t : Bool) → t || mentions k row ≡ false → (mentions k row ≡ false → count k row ≡ 0) →
        one_if t + count k row ≡ 0
    by true m more = cc
    by false m more = omega (arith, more m)

-- a constraint in column k is replaced by what it has but itself
specialized_weighs : (k n : ℕ) (row : List Constraint) →
    row_weight (specialized_row k n row) + count k row ≡ row_weight row
specialized_weighs k n [] = refl
specialized_weighs k n (d ∷ row) = by (is_in k d) (specialized_weighs k n row)
  where
    by : (t : Bool) → row_weight (specialized_row k n row) + count k row ≡ row_weight row →
        row_weight (specialized_if t n d ++ specialized_row k n row) +
        (one_if t + count k row) ≡ weight d + row_weight row
    by true e =
        omega (arith, e, row_weight_append (placed n d.fields) (specialized_row k n row), placed_weigh d.fields n)
    by false e = omega (arith, e)

abbrev counts : ℕ → List (List Constraint) → ℕ
counts k [] = 0
counts k (row ∷ rows) = count k row + counts k rows

mentioned_counts : (k : ℕ) (rows : List (List Constraint)) → any_mentions k rows ≡ true → 1 ≤ counts k rows
mentioned_counts k [] m = cc
mentioned_counts k (row ∷ rows) m = by (mentions k row) refl m (mentioned_counts k rows)
  where
    by : (t : Bool) → mentions k row ≡ t → t || any_mentions k rows ≡ true →
        (any_mentions k rows ≡ true → 1 ≤ counts k rows) → 1 ≤ count k row + counts k rows
    by true e m more = omega (arith, mentions_count k row e)
    by false e m more = omega (arith, more m)

specialized_rows_weigh : (k : ℕ) (h : Head) (a n : ℕ) (rows : List (List Constraint)) →
    rows_weight (specialized_rows k h a n rows) + counts k rows ≤ rows_weight rows
specialized_rows_weigh k h a n [] = omega arith
specialized_rows_weigh k h a n (row ∷ rows) =
    by (admits k h a row) (specialized_rows_weigh k h a n rows) (specialized_weighs k n row)
  where
    by : (t : Bool) → rows_weight (specialized_rows k h a n rows) + counts k rows ≤ rows_weight rows →
        row_weight (specialized_row k n row) + count k row ≡ row_weight row →
        rows_weight (keep_if t (specialized_row k n row) (specialized_rows k h a n rows)) +
        (count k row + counts k rows) ≤ row_weight row + rows_weight rows
    by true e f = omega (arith, e, f)
    by false e f = omega (arith, e, f)

default_rows_weigh : (k : ℕ) (rows : List (List Constraint)) →
    rows_weight (default_rows k rows) + counts k rows ≤ rows_weight rows
default_rows_weigh k [] = omega arith
default_rows_weigh k (row ∷ rows) = by (mentions k row) refl (default_rows_weigh k rows) (specialized_weighs k 0 row)
  where
    by : (t : Bool) → mentions k row ≡ t → rows_weight (default_rows k rows) + counts k rows ≤ rows_weight rows →
        row_weight (specialized_row k 0 row) + count k row ≡ row_weight row →
        rows_weight (keep_if (not t) row (default_rows k rows)) +
        (count k row + counts k rows) ≤ row_weight row + rows_weight rows
    by true m e f = omega (arith, e, f)
    by false m e f = omega (arith, e, unmentioned_count k row m)

-- each of these matrices has fewer constraints than w
abbrev pub AllLighter : ℕ → List Matrix → Type 0
AllLighter w [] = Unit {0}
AllLighter w (m ∷ ms) = (rows_weight m.rows < w) × AllLighter w ms

lighter_append : (w : ℕ) (xs ys : List Matrix) → AllLighter w xs → AllLighter w ys → AllLighter w (xs ++ ys)
lighter_append w [] ys a b = b
lighter_append w (x ∷ xs) ys a b = (a.0, lighter_append w xs ys a.1 b)

module _ (m : Matrix) (k : ℕ) (mentioned : any_mentions k m.rows ≡ true) where
  specialize_lighter : (h : Head) (fields : List Sort) → rows_weight (specialize m k h fields).rows < rows_weight m.rows
  specialize_lighter h fields =
      omega (
        arith,
        mentioned_counts k m.rows mentioned,
        specialized_rows_weigh k h (length fields)
            (length m.sorts) m.rows,
      )

  default_lighter : rows_weight (default_matrix m k).rows < rows_weight m.rows
  default_lighter = omega (arith, mentioned_counts k m.rows mentioned, default_rows_weigh k m.rows)

  named_lighter : (c : ℕ) (xs : List Ctor) → AllLighter (rows_weight m.rows) (named_parts m k c xs)
  named_lighter c [] = tt
  named_lighter c (x ∷ xs) = by (names k (ctor_head c) m.rows) (named_lighter (suc c) xs)
    where
      by : (t : Bool) → AllLighter (rows_weight m.rows) (named_parts m k (suc c) xs) →
          AllLighter (rows_weight m.rows)
          (keep_if t (specialize m k (ctor_head c) x.fields) (named_parts m k (suc c) xs))
      by true more = (specialize_lighter (ctor_head c) x.fields, more)
      by false more = more

  default_if_lighter : (t : Bool) → AllLighter (rows_weight m.rows) (keep_if t (default_matrix m k) [])
  default_if_lighter true = (default_lighter, tt)
  default_if_lighter false = tt

  tree_lighter : (c : ℕ) (xs : List Ctor) → AllLighter (rows_weight m.rows) (tree_parts m k c xs)
  tree_lighter c xs =
      lighter_append (rows_weight m.rows) (named_parts m k c xs) _ (named_lighter c xs)
      (default_if_lighter (nat_lt (length (named_parts m k c xs)) (length xs)))

  -- each part has fewer constraints
  pub parts_lighter : (table : TypeTable) → AllLighter (rows_weight m.rows) (parts table m k)
  parts_lighter table = by (slice_get m.sorts k)
    where
      by : (o : Option Sort) → AllLighter (rows_weight m.rows) (parts_by m k table o)
      by None = tt
      by (Some sort.Int) = (default_lighter, tt)
      by (Some sort.Bool) = (specialize_lighter (head.Bool true) [], (specialize_lighter (head.Bool false) [], tt))
      by (Some (sort.Tree d)) =
          tree_lighter (first_of (slice_get table.datatypes d.0)) (block_of table.ctors (slice_get table.datatypes d.0))

-- there are at most two parts more than constructors
module _ (m : Matrix) (k : ℕ) where
  pub named_few : (c : ℕ) (xs : List Ctor) → length (named_parts m k c xs) ≤ length xs
  named_few c [] = omega arith
  named_few c (x ∷ xs) = by (names k (ctor_head c) m.rows) (named_few (suc c) xs)
    where
      by : (t : Bool) → length (named_parts m k (suc c) xs) ≤ length xs →
          length (keep_if t (specialize m k (ctor_head c) x.fields) (named_parts m k (suc c) xs)) ≤ length (x ∷ xs)
      by true le = omega (arith, le)
      by false le = omega (arith, le)

  one_few : (t : Bool) (x : Matrix) → length (keep_if t x []) ≤ 1
  one_few true x = omega arith
  one_few false x = omega arith

  tree_few : (c : ℕ) (xs : List Ctor) → length (tree_parts m k c xs) ≤ length xs + 1
  tree_few c xs =
      let named = named_parts m k c xs in
      let other = keep_if (nat_lt (length named) (length xs)) (default_matrix m k) [] in
      omega (
        arith,
        length-append named other,
        named_few c xs,
        one_few (nat_lt (length named) (length xs))
            (default_matrix m k),
      )

  block_few : (ctors : List Ctor) (o : Option Datatype) → length (block_of ctors o) ≤ length ctors
  block_few ctors None = omega arith
  block_few ctors (Some t) = omega (arith, length-take t.count (drop t.first.0 ctors), length-drop t.first.0 ctors)

  pub parts_few : (table : TypeTable) → length (parts table m k) ≤ length table.ctors + 2
  parts_few table = by (slice_get m.sorts k)
    where
      by : (o : Option Sort) → length (parts_by m k table o) ≤ length table.ctors + 2
      by None = omega arith
      by (Some sort.Int) = omega arith
      by (Some sort.Bool) = omega arith
      by (Some (sort.Tree d)) =
          let o = slice_get table.datatypes d.0 in
          omega (arith, tree_few (first_of o) (block_of table.ctors o), block_few table.ctors o)

abbrev times : ℕ → ℕ → ℕ
times zero n = 0
times (suc a) n = n + times a n

abbrev power : ℕ → ℕ → ℕ
power b zero = 1
power b (suc n) = times b (power b n)

-- a number that goes down where a matrix gives way to fewer than b matrices with fewer constraints
abbrev pub score : ℕ → List Matrix → ℕ
score b [] = 0
score b (m ∷ ms) = power b (rows_weight m.rows) + score b ms

times_more : (a b n : ℕ) → a < b → times a n + n ≤ times b n
times_more a zero n lt = absurd (omega (arith, lt))
times_more zero (suc b) n lt = omega arith
times_more (suc a) (suc b) n lt = omega (arith, times_more a b n (omega (arith, lt)))

power_positive : (b n : ℕ) → 0 < b → 0 < power b n
power_positive b zero lt = omega arith
power_positive b (suc n) lt = omega (arith, times_more 0 b (power b n) lt, power_positive b n lt)

power_mono : (b i n : ℕ) → 0 < b → i ≤ n → power b i ≤ power b n
power_mono b i zero lt le = subst (λ (j : ℕ). power b j ≤ 1) (sym (zero_of i le)) (omega arith)
  where
    zero_of : (i : ℕ) → i ≤ 0 → i ≡ 0
    zero_of i le = omega (arith, le)
power_mono b zero (suc n) lt le = omega (arith, power_positive b (suc n) lt)
power_mono b (suc i) (suc n) lt le = times_mono b (power b i) (power b n) (power_mono b i n lt (omega (arith, le)))
  where
    times_mono : (a m n : ℕ) → m ≤ n → times a m ≤ times a n
    times_mono zero m n le = omega arith
    times_mono (suc a) m n le = omega (arith, le, times_mono a m n le)

score_append : (b : ℕ) (xs ys : List Matrix) → score b (xs ++ ys) ≡ score b xs + score b ys
score_append b [] ys = omega arith
score_append b (x ∷ xs) ys = omega (arith, score_append b xs ys)

score_lighter : (b u : ℕ) (ms : List Matrix) → 0 < b → AllLighter (suc u) ms →
    score b ms ≤ times (length ms) (power b u)
score_lighter b u [] lt light = omega arith
score_lighter b u (m ∷ ms) lt light =
    omega (arith, power_mono b (rows_weight m.rows) u lt (omega (arith, light.0)), score_lighter b u ms lt light.1)

-- what stands in place of a matrix scores less
pub score_smaller : (b : ℕ) (ms : List Matrix) (m : Matrix) (new : List Matrix) → length new < b →
    AllLighter (rows_weight m.rows) new → score b (ms ++ new) < score b (ms ++ m ∷ [])
score_smaller b ms m new few light =
    omega (arith, score_append b ms new, score_append b ms (m ∷ []), by (rows_weight m.rows) new few light)
  where
    by : (w : ℕ) (new : List Matrix) → length new < b → AllLighter w new → score b new < power b w
    by zero [] few light = omega arith
    by zero (n ∷ ns) few light = absurd (omega (arith, light.0))
    by (suc u) new few light =
        omega (
          arith,
          score_lighter b u new (omega (arith, few)) light,
          times_more (length new) b
              (power b u) few,
          power_positive b u (omega (arith, few)),
        )

pub score_dropped : (b : ℕ) (ms : List Matrix) (m : Matrix) → 0 < b → score b ms < score b (ms ++ m ∷ [])
score_dropped b ms m lt = omega (arith, score_append b ms (m ∷ []), power_positive b (rows_weight m.rows) lt)
