-- A matrix is covered exactly where all the matrices that it is taken apart into are.
use Rattle.std.proofs.Common.{◌≡◌, ℕ, suc, ◌<◌, ◌^◌, pos, Bool, true, false, List, [], ◌∷◌, ◌++◌, length, Option, Some}
use Rattle.std.proofs.Common.{slice_get, nat_lt, refl, sym, ap, ◌∙◌, subst, arith, inl, inr, ◌↔◌}
use Rattle.std.proofs.lemmas.Bool.{lt-ltb, ltb-true}
use Rattle.std.proofs.lemmas.Bool.Decides.{nat_tests}
use Rattle.std.proofs.lemmas.Int.{ints}
use Rattle.std.proofs.lemmas.List.{append_assoc}
use Rattle.std.proofs.lemmas.Option.{slice_get_within}
use Rattle.pp_prog.specs.declared.id.CtorId.{CtorId}
use Rattle.pp_prog.specs.declared.id.DataId.{DataId}
use Rattle.pp_prog.specs.declared.sort.Sort.{Sort}
use Rattle.pp_prog.specs.declared.sort.Sort.TheVariants as sort
use Rattle.pp_prog.specs.declared.types.Ctor.{Ctor}
use Rattle.pp_prog.specs.declared.types.TypeTable.{TypeTable}
use Rattle.pp_prog.specs.declared.value.Value.{Value}
use Rattle.pp_prog.specs.declared.value.Value.TheOpen as value
use Rattle.pp_prog.specs.declared.value.Value.TheViews.{out-Value}
use Rattle.pp_prog.specs.declared.value.Value.TheVariants.{Int, Bool as Truth, Tree, outs-Int, outs-Bool, outs-Tree}
use Rattle.pp_prog.specs.Sorts.{has_sort, have_sorts, is_int}
use Rattle.pp_prog.specs.Table.{HaveValues}
use Rattle.pp_cover.specs.declared.constraint.Head.{Head}
use Rattle.pp_cover.specs.declared.constraint.Head.TheVariants as head
use Rattle.pp_cover.specs.declared.matrix.Matrix.{Matrix}
use Rattle.pp_cover.specs.Constraint.{fields_of, head_of}
use Rattle.pp_cover.specs.Matrix.{AllCovered, CoversMatrix, any_fits, default_matrix, keep_if, names, specialize}
use Rattle.pp_cover.specs.Matrix.{specialized_rows}
use Rattle.pp_cover.specs.Split.{block_of, bool_parts, ctor_head, first_of, named_parts, parts, parts_by, tree_parts}
use Rattle.pp_cover.proofs.Blocks.{AreCtorsOf, IsNumbered, at_stands, stands}
use Rattle.pp_cover.proofs.Fresh.{fresh_none, unnamed_none}
use Rattle.pp_cover.proofs.Lists.{get_other, get_put, get_within, put}
use Rattle.pp_cover.proofs.Specialize.{NoneFits, Opens, default_fits, default_only, rows_specialized, rows_within}
use Rattle.pp_cover.proofs.Weight.{named_few}
use Rattle.pp_prog.proofs.ValueSorts.{have_at, have_length, have_more, int_has, truth_has}
use Rattle.pp_cover.proofs.Typed.{Opened, bool_opened, have_parts, have_put, tree_opened, tree_typed, values_of}

module _ (ctors : List Ctor) where
  pub all_covered_append : (xs ys : List Matrix) → AllCovered ctors xs → AllCovered ctors ys →
      AllCovered ctors (xs ++ ys)
  all_covered_append [] ys a b = b
  all_covered_append (x ∷ xs) ys a b = (a.0, all_covered_append xs ys a.1 b)

  pub all_covered_parts : (xs ys : List Matrix) → AllCovered ctors (xs ++ ys) →
      AllCovered ctors xs × AllCovered ctors ys
  all_covered_parts [] ys a = (tt, a)
  all_covered_parts (x ∷ xs) ys a = let more = all_covered_parts xs ys a.1 in ((a.0, more.0), more.1)

  module _ (m : Matrix) (k : ℕ) (s : Sort) (within : rows_within (length m.sorts) m.rows ≡ true)
      (there : slice_get m.sorts k ≡ Some s) where
    -- whatever values the fields have, there is a value of the sort that is this outermost
    abbrev Builds : Head → List Sort → Type 0
    Builds h fields =
        (ws : List Value) → have_sorts ctors ws fields ≡ true →
        (v : Value) × (has_sort ctors v s ≡ true) × (head_of (out-Value v) ≡ h) × (fields_of (out-Value v) ≡ ws)

    in_place : (us : List Value) → have_sorts ctors us m.sorts ≡ true → (v : Value) → slice_get (put us k v) k ≡ Some v
    in_place us have v =
        let u = have_at ctors m.sorts us k s have there in
        get_put us k v (slice_get_within us k u.0 u.1)

    specialize_down : CoversMatrix ctors m → (h : Head) (fields : List Sort) → Builds h fields →
        CoversMatrix ctors (specialize m k h fields)
    specialize_down covers h fields builds xs have =
        let cut = have_parts ctors xs m.sorts fields have in
        let us = cut.0 in
        let ws = cut.1 in
        let v = builds ws cut.4 in
        let vs = put us k v.0 in
        let long : length m.sorts ≡ length us = sym (have_length ctors m.sorts us cut.3) in
        let opens : Opens k h ws vs v.0 = record { there = in_place us cut.3 v.0; outermost = v.2; inside = v.3 } in
        let same = rows_specialized k (length m.sorts) h us ws vs v.0 long opens
        (λ j lt apart. sym (get_other us k j v.0 apart)) m.rows within in
        let all = covers vs (have_put ctors us m.sorts k s v.0 cut.3 there v.1) in
        subst (λ (l : List Value). any_fits (specialized_rows k h (length fields) (length m.sorts) m.rows) l ≡ true)
        (sym cut.2)
        (ap (λ (a : ℕ). any_fits (specialized_rows k h a (length m.sorts) m.rows) (us ++ ws))
        (sym (have_length ctors fields ws cut.4)) ∙ same ∙ all)

    specialize_up : (h : Head) (fields : List Sort) → CoversMatrix ctors (specialize m k h fields) → (vs : List Value) →
        have_sorts ctors vs m.sorts ≡ true → (v : Value) → slice_get vs k ≡ Some v → head_of (out-Value v) ≡ h →
        have_sorts ctors (fields_of (out-Value v)) fields ≡ true → any_fits m.rows vs ≡ true
    specialize_up h fields covers vs have v here outermost inside =
        let ws = fields_of (out-Value v) in
        let long : length m.sorts ≡ length vs = sym (have_length ctors m.sorts vs have) in
        let same = rows_specialized k (length m.sorts) h vs ws vs v long
        (record { there = here; outermost = outermost; inside = refl }) (λ j lt apart. refl) m.rows within in
        sym same
        ∙ ap (λ (a : ℕ). any_fits (specialized_rows k h a (length m.sorts) m.rows) (vs ++ ws))
        (have_length ctors fields ws inside)
        ∙ covers (vs ++ ws) (have_more ctors m.sorts fields vs ws have inside)

    default_down : CoversMatrix ctors m → (v : Value) → has_sort ctors v s ≡ true →
        ((vs : List Value) → slice_get vs k ≡ Some v → NoneFits k vs m.rows) → CoversMatrix ctors (default_matrix m k)
    default_down covers v of none us have =
        let vs = put us k v in
        default_fits k (length m.sorts) us vs (λ j lt apart. sym (get_other us k j v apart)) m.rows within
        (none vs (in_place us have v))
        ∙ covers vs (have_put ctors us m.sorts k s v have there of)

    default_up : CoversMatrix ctors (default_matrix m k) → CoversMatrix ctors m
    default_up covers vs have = default_only k m.rows vs (covers vs have)

  int_fits : (n : ℕ) → n < 2 ^ 31 → is_int (pos n) ≡ true
  int_fits n lt = grind (arith, ints, nat_tests)

  module _ (m : Matrix) (k : ℕ) (within : rows_within (length m.sorts) m.rows ≡ true) where
    int_down : slice_get m.sorts k ≡ Some sort.Int → length m.rows < 2 ^ 31 → CoversMatrix ctors m →
        CoversMatrix ctors (default_matrix m k)
    int_down there few covers =
        let n = fresh_none k m.rows in
        default_down m k sort.Int within there covers (Int (pos n.0))
        (int_has ctors (pos n.0) (int_fits n.0 (omega (arith, n.1))))
        (λ vs here. n.2 vs (Int (pos n.0)) here (ap head_of (outs-Int (pos n.0))))

    int_up : slice_get m.sorts k ≡ Some sort.Int → CoversMatrix ctors (default_matrix m k) → CoversMatrix ctors m
    int_up there = default_up m k sort.Int within there

    build_bool : (there : slice_get m.sorts k ≡ Some sort.Bool) (b : Bool) →
        Builds m k sort.Bool within there (head.Bool b) []
    build_bool there b [] have = (Truth b, truth_has ctors b, ap head_of (outs-Bool b), ap fields_of (outs-Bool b))
    build_bool there b (w ∷ ws) have = cc

    bool_down : slice_get m.sorts k ≡ Some sort.Bool → CoversMatrix ctors m → AllCovered ctors (bool_parts m k)
    bool_down there covers = (
      specialize_down m k sort.Bool within there covers (head.Bool true) [] (build_bool there true),
      (specialize_down m k sort.Bool within there covers (head.Bool false) [] (build_bool there false), tt),
    )

    bool_up : slice_get m.sorts k ≡ Some sort.Bool → AllCovered ctors (bool_parts m k) → CoversMatrix ctors m
    bool_up there all vs have =
        let v = have_at ctors m.sorts vs k sort.Bool have there in
        let b = bool_opened ctors v.0 v.2 in
        by b.0 v.0 v.1 b.1
      where
        by : (b : Bool) (v : Value) → slice_get vs k ≡ Some v → out-Value v ≡ value.Bool b → any_fits m.rows vs ≡ true
        by true v here is =
            specialize_up m k sort.Bool within there (head.Bool true) [] all.0 vs have v here (ap head_of is)
            (rw is refl)
        by false v here is =
            specialize_up m k sort.Bool within there (head.Bool false) [] all.1.0 vs have v here (ap head_of is)
            (rw is refl)

    module _ (d : DataId) (there : slice_get m.sorts k ≡ Some (sort.Tree d)) where
      build_tree : (c : ℕ) (x : Ctor) → slice_get ctors c ≡ Some x → x.of.0 ≡ d.0 →
          Builds m k (sort.Tree d) within there (ctor_head c) x.fields
      build_tree c x at of ws have =
          let id : CtorId = record { 0 = c } in (
            Tree id ws,
            tree_typed ctors id ws x d at of have,
            ap head_of (outs-Tree id ws),
            ap fields_of
                (outs-Tree id ws),
          )

      named_down : CoversMatrix ctors m → (c : ℕ) (xs : List Ctor) → AreCtorsOf ctors d.0 c xs →
          AllCovered ctors (named_parts m k c xs)
      named_down covers c [] st = tt
      named_down covers c (x ∷ xs) st = by (names k (ctor_head c) m.rows) (named_down covers (suc c) xs st.2)
        where
          by : (t : Bool) → AllCovered ctors (named_parts m k (suc c) xs) →
              AllCovered ctors (keep_if t (specialize m k (ctor_head c) x.fields) (named_parts m k (suc c) xs))
          by true more = (
            specialize_down m k (sort.Tree d) within there covers (ctor_head c) x.fields
                (build_tree c x st.0 st.1),
            more,
          )
          by false more = more

      named_at : (c : ℕ) (xs : List Ctor) → AllCovered ctors (named_parts m k c xs) → (e : ℕ) (ctor : Ctor) →
          IsNumbered c xs e ctor → names k (ctor_head e) m.rows ≡ true →
          CoversMatrix ctors (specialize m k (ctor_head e) ctor.fields)
      named_at c [] all e ctor at named = absurd at
      named_at c (x ∷ xs) all e ctor (inl is) named =
          by (names k (ctor_head c) m.rows) (subst (λ (i : ℕ). names k (ctor_head i) m.rows ≡ true) is.0 named) all
        where
          by : (t : Bool) → t ≡ true →
              AllCovered ctors (keep_if t (specialize m k (ctor_head c) x.fields) (named_parts m k (suc c) xs)) →
              CoversMatrix ctors (specialize m k (ctor_head e) ctor.fields)
          by true h all =
              subst (λ (y : Ctor). CoversMatrix ctors (specialize m k (ctor_head e) y.fields)) is.1
              (subst (λ (i : ℕ). CoversMatrix ctors (specialize m k (ctor_head i) x.fields)) (sym is.0) all.0)
          by false h all = cc
      named_at c (x ∷ xs) all e ctor (inr at) named =
          named_at (suc c) xs (rest (names k (ctor_head c) m.rows) all) e ctor at named
        where
          rest : (t : Bool) →
              AllCovered ctors (keep_if t (specialize m k (ctor_head c) x.fields) (named_parts m k (suc c) xs)) →
              AllCovered ctors (named_parts m k (suc c) xs)
          rest true all = all.1
          rest false all = all

      unnamed_at : (c : ℕ) (xs : List Ctor) (e : ℕ) (ctor : Ctor) → IsNumbered c xs e ctor →
          names k (ctor_head e) m.rows ≡ false → length (named_parts m k c xs) < length xs
      unnamed_at c [] e ctor at unnamed = absurd at
      unnamed_at c (x ∷ xs) e ctor (inl is) unnamed =
          by (names k (ctor_head c) m.rows) (subst (λ (i : ℕ). names k (ctor_head i) m.rows ≡ false) is.0 unnamed)
        where
          by : (t : Bool) → t ≡ false →
              length (keep_if t (specialize m k (ctor_head c) x.fields) (named_parts m k (suc c) xs)) < length (x ∷ xs)
          by true h = cc
          by false h = omega (arith, named_few m k (suc c) xs)
      unnamed_at c (x ∷ xs) e ctor (inr at) unnamed =
          by (names k (ctor_head c) m.rows) (unnamed_at (suc c) xs e ctor at unnamed)
        where
          by : (t : Bool) → length (named_parts m k (suc c) xs) < length xs →
              length (keep_if t (specialize m k (ctor_head c) x.fields) (named_parts m k (suc c) xs)) < length (x ∷ xs)
          by true lt = omega (arith, lt)
          by false lt = omega (arith, lt)

      -- a constructor of the datatype that no row names
      abbrev Unnamed : Type 0
      Unnamed =
          (e : ℕ) × (ctor : Ctor) × (slice_get ctors e ≡ Some ctor) × (ctor.of.0 ≡ d.0) ×
          (names k (ctor_head e) m.rows ≡ false)

      unnamed_found : (c : ℕ) (xs : List Ctor) → AreCtorsOf ctors d.0 c xs → length (named_parts m k c xs) < length xs →
          Unnamed
      unnamed_found c [] st lt = absurd (omega (arith, lt))
      unnamed_found c (x ∷ xs) st lt = by (names k (ctor_head c) m.rows) refl lt (unnamed_found (suc c) xs st.2)
        where
          by : (t : Bool) → names k (ctor_head c) m.rows ≡ t →
              length (keep_if t (specialize m k (ctor_head c) x.fields) (named_parts m k (suc c) xs)) < length
              (x ∷ xs) → (length (named_parts m k (suc c) xs) < length xs → Unnamed) → Unnamed
          by true e lt more = more (omega (arith, lt))
          by false e lt more = (c, x, st.0, st.1, e)

      tree_down : ((e : ℕ) (ctor : Ctor) → slice_get ctors e ≡ Some ctor → (ws : List Value) ×
          (have_sorts ctors ws ctor.fields ≡ true)) → CoversMatrix ctors m → (c : ℕ) (xs : List
          Ctor) → AreCtorsOf ctors d.0 c xs → AllCovered ctors (tree_parts m k c xs)
      tree_down fields covers c xs st =
          let named = named_parts m k c xs in
          all_covered_append named (keep_if (nat_lt (length named) (length xs)) (default_matrix m k) [])
          (named_down covers c xs st) (by (nat_lt (length named) (length xs)) refl)
        where
          by : (t : Bool) → nat_lt (length (named_parts m k c xs)) (length xs) ≡ t →
              AllCovered ctors (keep_if t (default_matrix m k) [])
          by true e =
              let other = unnamed_found c xs st (ltb-true _ _ e) in
              let ws = fields other.0 other.1 other.2 in
              let v = build_tree other.0 other.1 other.2 other.3 ws.0 ws.1 in (
                default_down m k (sort.Tree d) within there covers v.0 v.1
                    (λ vs here. unnamed_none k vs v.0 here (ctor_head other.0) v.2 m.rows other.4),
                tt,
              )
          by false e = tt

      tree_up : (c : ℕ) (xs : List Ctor) →
          ((e : ℕ) (ctor : Ctor) → slice_get ctors e ≡ Some ctor → ctor.of.0 ≡ d.0 → IsNumbered c xs e ctor) →
          AllCovered ctors (tree_parts m k c xs) → CoversMatrix ctors m
      tree_up c xs all_at all vs have =
          let v = have_at ctors m.sorts vs k (sort.Tree d) have there in
          let o = tree_opened ctors d v.0 v.2 in
          by v.0 v.1 o (all_at o.c.0 o.ctor o.there o.of) (names k (ctor_head o.c.0) m.rows) refl
        where
          rest : AllCovered ctors (named_parts m k c xs) × AllCovered ctors
              (keep_if (nat_lt (length (named_parts m k c xs)) (length xs)) (default_matrix m k) [])
          rest =
              all_covered_parts (named_parts m k c xs)
              (keep_if (nat_lt (length (named_parts m k c xs)) (length xs)) (default_matrix m k) []) all

          others : (t : Bool) → t ≡ true → AllCovered ctors (keep_if t (default_matrix m k) []) →
              CoversMatrix ctors (default_matrix m k)
          others true h all = all.0
          others false h all = cc

          by : (v : Value) → slice_get vs k ≡ Some v → (o : Opened ctors d v) → IsNumbered c xs o.c.0 o.ctor →
              (t : Bool) → names k (ctor_head o.c.0) m.rows ≡ t → any_fits m.rows vs ≡ true
          by v here o at true named =
              specialize_up m k (sort.Tree d) within there (ctor_head o.c.0) o.ctor.fields
              (named_at c xs rest.0 o.c.0 o.ctor at named) vs have v here (ap head_of o.opens)
              (ap (λ (w : value.Value-F Value). have_sorts ctors (fields_of w) o.ctor.fields) o.opens ∙ o.have)
          by v here o at false unnamed =
              let fewer : nat_lt (length (named_parts m k c xs)) (length xs) ≡ true = lt-ltb _ _
              (unnamed_at c xs o.c.0 o.ctor at unnamed) in
              default_up m k (sort.Tree d) within there (others _ fewer rest.1) vs have

-- a matrix is covered exactly where its parts are
pub parts_covered : (table : TypeTable) → HaveValues table.datatypes table.ctors → (m : Matrix) (k : ℕ) →
    k < length m.sorts → rows_within (length m.sorts) m.rows ≡ true → length m.rows < 2 ^ 31 →
    AllCovered table.ctors (parts table m k) ↔ CoversMatrix table.ctors m
parts_covered table values m k lt within few =
    let s = get_within m.sorts k lt in
    subst (λ (o : Option Sort). AllCovered table.ctors (parts_by m k table o) ↔ CoversMatrix table.ctors m) (sym s.1)
    (split s.0 s.1)
  where
    fields : (e : ℕ) (ctor : Ctor) → slice_get table.ctors e ≡ Some ctor →
        (ws : List Value) × (have_sorts table.ctors ws ctor.fields ≡ true)
    fields e ctor at = values_of table.ctors table.datatypes values ctor.fields (table.agree.fields e ctor at)

    split : (s : Sort) → slice_get m.sorts k ≡ Some s →
        AllCovered table.ctors (parts_by m k table (Some s)) ↔ CoversMatrix table.ctors m
    split sort.Int there = (
      λ all. int_up table.ctors m k within there all.0,
      λ covers.
          (int_down table.ctors m k within there few covers, tt),
    )
    split sort.Bool there = (bool_up table.ctors m k within there, bool_down table.ctors m k within there)
    split (sort.Tree d) there =
        let o = slice_get table.datatypes d.0 in (
          tree_up table.ctors m k within d there (first_of o) (block_of table.ctors o) (at_stands table d o refl),
          λ covers. tree_down table.ctors m k within d there fields covers (first_of o) (block_of table.ctors o)
              (stands table d o refl),
        )

-- one constructor after another, as a loop goes
module _ (m : Matrix) (k c next : ℕ) (x : Ctor) (xs rest : List Ctor) (before whole : List Matrix) (at : xs ≡ x ∷ rest)
    (further : next ≡ suc c) (so_far : before ++ named_parts m k c xs ≡ whole) where
  split_so_far : before ++ keep_if (names k (ctor_head c) m.rows) (specialize m k (ctor_head c) x.fields)
      (named_parts m k next rest) ≡ whole
  split_so_far =
      subst (λ (n : ℕ). before ++ keep_if (names k (ctor_head c) m.rows) (specialize m k (ctor_head c) x.fields)
      (named_parts m k n rest) ≡ whole) (sym further)
      (subst (λ (l : List Ctor). before ++ named_parts m k c l ≡ whole) at so_far)

  pub named_taken : names k (ctor_head c) m.rows ≡ true →
      before ++ specialize m k (ctor_head c) x.fields ∷ [] ++ named_parts m k next rest ≡ whole
  named_taken named =
      append_assoc before (specialize m k (ctor_head c) x.fields ∷ []) (named_parts m k next rest)
      ∙ subst (λ (t : Bool). before ++ keep_if t (specialize m k (ctor_head c) x.fields)
      (named_parts m k next rest) ≡ whole) named split_so_far

  pub named_skipped : names k (ctor_head c) m.rows ≡ false → before ++ named_parts m k next rest ≡ whole
  named_skipped unnamed =
      subst (λ (t : Bool). before ++ keep_if t (specialize m k (ctor_head c) x.fields)
      (named_parts m k next rest) ≡ whole) unnamed split_so_far
