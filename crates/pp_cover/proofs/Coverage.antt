-- What holds of the matrices that are still to be looked at, from the first one to the end.
use Rattle.std.proofs.Common.{◌≡◌, ℕ, zero, suc, ◌+◌, ◌<◌, ◌^◌, true, ◌||◌, List, [], ◌∷◌, ◌++◌, length, get_or}
use Rattle.std.proofs.Common.{Some, nat_eq, refl, sym, ap, ◌∙◌, subst, arith, Contains, ◌↔◌}
use Rattle.std.proofs.lemmas.Bool.{and_from, and_parts, or_left, or_right}
use Rattle.std.proofs.lemmas.List.{length-map}
use Rattle.std.proofs.Math.Logic.{∥∥₁_elim}
use Rattle.std.specs.List.{list_all}
use Rattle.pp_prog.specs.declared.expr.Pattern.{Pattern}
use Rattle.pp_prog.specs.declared.sort.Sort.{Sort}
use Rattle.pp_prog.specs.declared.types.TypeTable.{TypeTable}
use Rattle.pp_prog.specs.declared.value.Value.{Value}
use Rattle.pp_prog.specs.Fits.{fits, fits_one}
use Rattle.pp_prog.specs.Sorts.{has_sort}
use Rattle.pp_prog.specs.Table.{HaveValues, is_sort}
use Rattle.pp_prog.specs.Valid.{Covers}
use Rattle.pp_prog.proofs.Sure.{true_prop, ⊥_prop}
use Rattle.pp_cover.specs.declared.constraint.Constraint.{Constraint}
use Rattle.pp_cover.specs.declared.matrix.Matrix.{Matrix}
use Rattle.pp_cover.specs.Constraint.{constraints, row_fits}
use Rattle.pp_cover.specs.Matrix.{AllCovered, CoversMatrix, any_fits, any_mentions, is_in, mentions}
use Rattle.pp_cover.specs.Split.{parts}
use Rattle.pp_cover.specs.Cover.{first_column, first_matrix, first_rows}
use Rattle.pp_cover.proofs.Specialize.{rows_within}
use Rattle.pp_cover.proofs.Constraints.{constraints_satisfied}
use Rattle.pp_cover.proofs.Lists.{nat_eq_same}
use Rattle.pp_cover.proofs.Parts.{all_covered_append, all_covered_parts, parts_covered}
use Rattle.pp_cover.proofs.Typed.{values_of}
use Rattle.pp_cover.proofs.Weight.{parts_few, parts_lighter, score, score_smaller}
use Rattle.pp_cover.proofs.WellFormed.{AllWellFormed, WellFormed, all_well_formed_append, all_well_formed_parts}
use Rattle.pp_cover.proofs.WellFormed.{constraints_within, mentioned_within, parts_well_formed}

-- the row of a pattern is met by a value that fits it
first_rows_fit : (ps : List Pattern) (v : Value) → any_fits (first_rows ps) (v ∷ []) ≡ fits_one ps v
first_rows_fit [] v = refl
first_rows_fit (p ∷ ps) v =
    ap (λ b. b || any_fits (first_rows ps) (v ∷ [])) (constraints_satisfied p 0 (v ∷ []) v refl)
    ∙ ap (λ b. fits p v || b) (first_rows_fit ps v)

first_rows_within : (ps : List Pattern) → rows_within 1 (first_rows ps) ≡ true
first_rows_within [] = refl
first_rows_within (p ∷ ps) = and_from _ _ (constraints_within p 0 1 (omega arith)) (first_rows_within ps)

-- the matrices are well-formed, and all are covered exactly where the patterns cover the sort
pub record Invariant (table : TypeTable) (s : Sort) (patterns : List Pattern) (pending : List Matrix) : Type 0 where
  pub well_formed : AllWellFormed table pending
  pub covers : HaveValues table.datatypes table.ctors → AllCovered table.ctors pending ↔ Covers table.ctors s patterns

module _ (table : TypeTable) (s : Sort) (patterns : List Pattern) where
  pub invariant_starts : is_sort table.datatypes s ≡ true → length patterns < 2 ^ 16 →
      Invariant table s patterns (first_matrix s patterns ∷ [])
  invariant_starts in_range few = record {
    well_formed = (
      record {
        in_range = and_from _ _ in_range refl;
        within = first_rows_within patterns;
        few = omega
            (arith, few, length-map patterns (λ p. constraints p 0));
      },
      tt,
    );
    covers = λ values. (all_to, to_all);
  }
    where
      all_to : AllCovered table.ctors (first_matrix s patterns ∷ []) → Covers table.ctors s patterns
      all_to all v has = sym (first_rows_fit patterns v) ∙ all.0 (v ∷ []) (and_from _ _ has refl)

      at : Covers table.ctors s patterns → CoversMatrix table.ctors (first_matrix s patterns)
      at covers [] have = cc
      at covers (v ∷ []) have = first_rows_fit patterns v ∙ covers v (and_parts _ _ have).0
      at covers (v ∷ w ∷ vs) have = let no = (and_parts (has_sort table.ctors v s) _ have).1 in cc

      to_all : Covers table.ctors s patterns → AllCovered table.ctors (first_matrix s patterns ∷ [])
      to_all covers = (at covers, tt)

  module _ (ms : List Matrix) (m : Matrix) (invariant : Invariant table s patterns (ms ++ m ∷ [])) where
    last_well_formed : WellFormed table m
    last_well_formed = (all_well_formed_parts table ms (m ∷ []) invariant.well_formed).1.0

    -- where the last matrix is covered, the others are left
    pub invariant_without_covered : CoversMatrix table.ctors m → Invariant table s patterns ms
    invariant_without_covered covered = record {
      well_formed = (all_well_formed_parts table ms (m ∷ []) invariant.well_formed).0;
      covers = λ values. (
        λ all. (invariant.covers values).0 (all_covered_append table.ctors ms (m ∷ []) all (covered, tt)),
        λ covers. (all_covered_parts table.ctors ms (m ∷ []) ((invariant.covers values).1 covers)).0,
      );
    }

    module _ (k : ℕ) (mentioned : any_mentions k m.rows ≡ true) where
      pub column_inside : k < length m.sorts
      column_inside = mentioned_within k (length m.sorts) m.rows last_well_formed.within mentioned

      pub sorts_in_range : list_all (is_sort table.datatypes) m.sorts ≡ true
      sorts_in_range = last_well_formed.in_range

      -- the parts of the last matrix stand in its place
      pub invariant_after_split : Invariant table s patterns (ms ++ parts table m k)
      invariant_after_split =
          let before = all_well_formed_parts table ms (m ∷ []) invariant.well_formed in record {
            well_formed =
                all_well_formed_append table ms (parts table m k) before.0
                (parts_well_formed table m k last_well_formed);
            covers = λ values.
                let same = parts_covered table values m k column_inside last_well_formed.within
                (omega (arith, last_well_formed.few)) in (
                  λ all.
                      let cut = all_covered_parts table.ctors ms (parts table m k) all in
                      (invariant.covers values).0 (all_covered_append table.ctors ms (m ∷ []) cut.0 (same.0 cut.1, tt)),
                  λ covers.
                      let cut = all_covered_parts table.ctors ms (m ∷ []) ((invariant.covers values).1 covers) in
                      all_covered_append table.ctors ms (parts table m k) cut.0 (same.1 cut.1.0),
                );
          }

      pub split_smaller : score (length table.ctors + 3) (ms ++ parts table m k) < score (length table.ctors + 3)
          (ms ++ m ∷ [])
      split_smaller =
          score_smaller (length table.ctors + 3) ms m (parts table m k) (omega (arith, parts_few m k table))
          (parts_lighter m k mentioned table)

    -- a matrix without rows isn't covered
    pub uncovered_refutes : m.rows ≡ [] → Covers table.ctors s patterns → ⊥
    uncovered_refutes none covers = ∥∥₁_elim table.inhabited ⊥_prop (λ values.
        let all = (all_covered_parts table.ctors ms (m ∷ []) ((invariant.covers values).1 covers)).1.0 in
        let vs = values_of table.ctors table.datatypes values m.sorts last_well_formed.in_range in
        let fit : any_fits [] vs.0 ≡ true = subst (λ (rows : List (List Constraint)). any_fits rows vs.0 ≡ true) none
        (all vs.0 vs.1) in
        cc)

  -- where no matrix is left, the patterns cover the sort
  pub none_left_covers : Invariant table s patterns [] → Covers table.ctors s patterns
  none_left_covers invariant v has = ∥∥₁_elim table.inhabited true_prop (λ values. (invariant.covers values).0 tt v has)

-- a matrix with a row that constrains nothing is covered
pub empty_covered : (table : TypeTable) (m : Matrix) → Contains m.rows [] → CoversMatrix table.ctors m
empty_covered table m has vs have = by m.rows has.0 has.1 has.2
  where
    by : (rows : List (List Constraint)) (i : ℕ) → i < length rows → get_or rows i [] ≡ [] → any_fits rows vs ≡ true
    by [] i lt is = absurd (omega (arith, lt))
    by (row ∷ rows) zero lt is = ap (λ (r : List Constraint). row_fits r vs || any_fits rows vs) is
    by (row ∷ rows) (suc i) lt is = or_right _ _ (by rows i (omega (arith, lt)) is)

-- the column of a row's first constraint is mentioned
pub first_mentioned : (rows : List (List Constraint)) (i : ℕ) (row : List Constraint) (k : ℕ) → i < length rows →
    row ≡ get_or rows i row → first_column row ≡ Some k → any_mentions k rows ≡ true
first_mentioned rows i row k lt is column = by rows i lt is
  where
    in_row : (row : List Constraint) → first_column row ≡ Some k → mentions k row ≡ true
    in_row [] e = cc
    in_row (d ∷ row) e =
        let same : d.column ≡ k = cc in
        or_left (is_in k d) (mentions k row) (subst (λ (j : ℕ). nat_eq d.column j ≡ true) same (nat_eq_same d.column))

    by : (rows : List (List Constraint)) (i : ℕ) → i < length rows → row ≡ get_or rows i row →
        any_mentions k rows ≡ true
    by [] i lt is = absurd (omega (arith, lt))
    by (r ∷ rows) zero lt is =
        or_left (mentions k r) (any_mentions k rows) (in_row r (ap first_column (sym is) ∙ column))
    by (r ∷ rows) (suc i) lt is = or_right _ _ (by rows i (omega (arith, lt)) is)
