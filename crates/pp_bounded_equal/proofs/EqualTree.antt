-- The comparison of two trees, a constructor at a time.
use Rattle.std.proofs.Common.{◌≡◌, ℕ, zero, suc, ◌+◌, ◌-◌, ◌<◌, ◌≤◌, min, ◌||◌, Bool, true, false, not, List, [], ◌∷◌}
use Rattle.std.proofs.Common.{length, Option, Some, None, refl, sym, ap, ◌∙◌, subst, arith, slice_get, inl, inr}
use Rattle.std.specs.Prelude.{◌↔◌}
use Rattle.std.proofs.lemmas.Bool.{both_ways, cases_Bool, cases_lt, or_left, or_right}
use Rattle.std.proofs.lemmas.Option.{same_Some, slice_get_within}
use Rattle.pp_prog.specs.declared.id.CtorId.{CtorId}
use Rattle.pp_prog.specs.declared.sort.Sort.{Sort}
use Rattle.pp_prog.specs.declared.sort.Sort.TheVariants as sort
use Rattle.pp_prog.specs.declared.types.Datatype.{Datatype}
use Rattle.pp_prog.specs.declared.types.TypeTable.{TypeTable}
use Rattle.pp_prog.specs.declared.value.Value.{Value}
use Rattle.pp_prog.specs.declared.value.Value.TheVariants as value
use Rattle.pp_prog.specs.Sizes.{bits, ctors_of}
use Rattle.pp_prog.proofs.Values.{same_fields}
use Rattle.pp_clause.specs.Literal.{Literal, lit_value, opposite}
use Rattle.pp_gate.specs.declared.gate.Gate.{Gate}
use Rattle.pp_gate.specs.Circuit.{Gives, IsOf, StandsFor}
use Rattle.pp_gate.specs.Growth.{Grows}
use Rattle.pp_gate.proofs.Agreement.{Gives_old}
use Rattle.pp_bits.proofs.Growing.{IsOf_negated}
use Rattle.pp_bits.proofs.Numbers.{lit_value_negated}
use Rattle.pp_domain.specs.declared.symbol.Symbol.{Symbol}
use Rattle.pp_domain.specs.declared.symbol.Symbol.TheVariants as symbol
use Rattle.pp_domain.specs.Symbols.{IsSymbol}
use Rattle.pp_bounded_trees.specs.declared.arena.Alternative.{Alternative}
use Rattle.pp_bounded_trees.specs.declared.arena.Trees.{Trees}
use Rattle.pp_bounded_trees.specs.declared.arena.BoundedTree.{BoundedTree}
use Rattle.pp_bounded_trees.specs.Alternatives.{IsOwn, found}
use Rattle.pp_bounded_trees.specs.Arena.{TreeFits}
use Rattle.pp_bounded_equal.specs.Equal.{AreEqualFields, EqualBefore, IsEqualStep, IsEqualTest, TwoTrees, ctors_test}
use Rattle.pp_bounded_equal.specs.Equal.{pair_test, tree_test}
use Rattle.pp_bounded_trees.specs.Fields.{IsInArena, alternatives_of, has_none, is_nil}
use Rattle.pp_bounded_trees.specs.Meaning.{BoundedFits, bounded_sense}
use Rattle.pp_bounded_merge.specs.Merge.{AreAlternatives}
use Rattle.pp_bounded_trees.specs.Values.{field_values, symbol_value, value_among, value_at, values_of}
use Rattle.pp_bounded_trees.proofs.Alternatives.{own_of, true_once}
use Rattle.pp_bounded_trees.proofs.Candidates.{bits_of_ctors, in_block_ctor}
use Rattle.pp_bounded_equal.proofs.Compared.{ctors_test_all}
use Rattle.pp_bounded_trees.proofs.Found.{found_has, found_some}
use Rattle.pp_bounded_trees.proofs.Locality.{node_value}
use Rattle.pp_prog.proofs.Values.{ctor_same, same_ctor}
use Rattle.pp_bounded_merge.proofs.MergedTree.{Side, node_alternatives, side_one, side_order}
use Rattle.pp_bounded_merge.proofs.Ranks.{tops, tops_within}
use Rattle.pp_bounded_merge.proofs.Sides.{first_of, side_high}

-- ---- symbols that stand for nothing

pub in_arena : (d : Trees) (gs : List Gate) (s : Sort) (x : Symbol BoundedTree) → IsSymbol bounded_sense d gs s x
    → IsInArena d.nodes x
in_arena d gs s (symbol.Word w) is = tt
in_arena d gs s (symbol.Bit l) is = tt
in_arena d gs (sort.Tree of) (symbol.Tree t) is = is.0.before
in_arena d gs sort.Int (symbol.Tree t) is = absurd is
in_arena d gs sort.Bool (symbol.Tree t) is = absurd is

nil_is : (xs : List Alternative) → is_nil xs ≡ true → xs ≡ []
nil_is [] e = refl
nil_is (x ∷ xs) e = cc

nil_not : (xs : List Alternative) → is_nil xs ≡ false → xs ≡ [] → ⊥
nil_not [] e f = cc
nil_not (x ∷ xs) e f = cc

module _ (types : TypeTable) (d : Trees) (gs : List Gate) (fits : BoundedFits types d gs) where
  pub none_has : (s : Sort) (x : Symbol BoundedTree) → IsSymbol bounded_sense d gs s x → has_none d.nodes x ≡ true
      → (a : ℕ → Bool) (v : Value) → symbol_value a (values_of a d.nodes) x ≡ Some v → ⊥
  none_has s (symbol.Word w) is none a v stands = cc
  none_has s (symbol.Bit l) is none a v stands = cc
  none_has (sort.Tree of) (symbol.Tree t) is none a v stands =
      let empty = nil_is is.0.node.alternatives
      (ap (λ o. is_nil (alternatives_of o)) (sym is.0.at) ∙ none) in
      let n : None ≡ Some v = sym (node_value a gs types d.nodes t.number is.0.node fits.arena is.0.at
      ∙ ap (value_among a (values_of a d.nodes)) empty) ∙ stands in cc
  none_has sort.Int (symbol.Tree t) is none a v stands = absurd is
  none_has sort.Bool (symbol.Tree t) is none a v stands = absurd is

  pub side_ctors : (t : BoundedTree) (xs : List Alternative) → Side types d gs t xs → 1 ≤ length (ctors_of types t.of)
  side_ctors t xs side =
      let f = first_of xs side.some in
      let own = (fits.arena.each t.number side.tree.node side.tree.at).each 0 f.own
      (ap (λ ys. slice_get ys 0) (sym side.is) ∙ f.at) in
      let b = in_block_ctor types t.of f.own.ctor.0 own.entry own.at (own.data_of ∙ side.tree.data_of) in
      let within = slice_get_within (ctors_of types t.of) b.place own.entry b.at in omega arith

  -- a tree with a constructor has bits
  pub side_bits : (t : BoundedTree) (xs : List Alternative) → Side types d gs t xs → (m : ℕ) → 1 ≤ m
      → 1 ≤ bits types m (sort.Tree t.of)
  side_bits t xs side zero high = absurd (omega arith)
  side_bits t xs side (suc m) high =
      let some = side_ctors t xs side in
      let e = bits_of_ctors types m t.of in omega arith

  pub test_some : (s : Sort) (x y : Symbol BoundedTree) → IsSymbol bounded_sense d gs s x
      → IsSymbol bounded_sense d gs s y → has_none d.nodes x ≡ false → has_none d.nodes y ≡ false
      → 1 ≤ pair_test types x y
  test_some sort.Int (symbol.Word w) (symbol.Word v) left right some also = omega arith
  test_some sort.Bool (symbol.Bit w) (symbol.Bit v) left right some also = omega arith
  test_some (sort.Tree of) (symbol.Tree t) (symbol.Tree u) left right some also =
      let lefts : Side types d gs t left.0.node.alternatives = record {
        tree = left.0;
        is = refl;
        some = nil_not _ (ap (λ o. is_nil (alternatives_of o)) (sym left.0.at) ∙ some);
      } in
      let rights : Side types d gs u right.0.node.alternatives = record {
        tree = right.0;
        is = refl;
        some = nil_not _ (ap (λ o. is_nil (alternatives_of o)) (sym right.0.at) ∙ also);
      } in
      let p = side_high types d gs fits t _ lefts in
      let q = side_high types d gs fits u _ rights in
      let b = side_bits t _ lefts (min t.height u.height) (omega arith) in omega arith
  test_some sort.Int (symbol.Bit l) y left right some also = absurd left
  test_some sort.Int (symbol.Tree t) y left right some also = absurd left
  test_some sort.Int (symbol.Word w) (symbol.Bit l) left right some also = absurd right
  test_some sort.Int (symbol.Word w) (symbol.Tree t) left right some also = absurd right
  test_some sort.Bool (symbol.Word w) y left right some also = absurd left
  test_some sort.Bool (symbol.Tree t) y left right some also = absurd left
  test_some sort.Bool (symbol.Bit l) (symbol.Word w) left right some also = absurd right
  test_some sort.Bool (symbol.Bit l) (symbol.Tree t) left right some also = absurd right
  test_some (sort.Tree of) (symbol.Word w) y left right some also = absurd left
  test_some (sort.Tree of) (symbol.Bit l) y left right some also = absurd left
  test_some (sort.Tree of) (symbol.Tree t) (symbol.Word w) left right some also = absurd right
  test_some (sort.Tree of) (symbol.Tree t) (symbol.Bit l) left right some also = absurd right

  pub no_value : (t : BoundedTree) (tree : TreeFits d.nodes (length d.nodes) t) → tree.node.alternatives ≡ []
      → (a : ℕ → Bool) (v : Value) → value_at (values_of a d.nodes) t.number ≡ Some v → ⊥
  no_value t tree empty a v is =
      let n : None ≡ Some v = sym (node_value a gs types d.nodes t.number tree.node fits.arena tree.at
      ∙ ap (value_among a (values_of a d.nodes)) empty) ∙ is in cc

  pub side_rank : (t : BoundedTree) (xs : List Alternative) → Side types d gs t xs → tops xs ≤ t.number
  side_rank t xs side =
      let e = ap tops side.is in
      let w = tops_within types gs d.nodes t.number side.tree.node.of side.tree.node.height
      side.tree.node.alternatives (fits.arena.each t.number side.tree.node side.tree.at).each in omega arith

  -- the sides of two trees
  abbrev pub two_trees : (t u : BoundedTree) (xs ys : List Alternative) → Side types d gs t xs → Side types d gs u ys
      → u.of ≡ t.of → TwoTrees types d gs xs ys
  two_trees t u xs ys lefts rights same = record {
    of = t.of;
    left_height = t.height - 1;
    right_height = u.height - 1;
    left = subst (λ zs. AreAlternatives types d gs t.of (suc (t.height - 1)) zs)
        (sym lefts.is) (node_alternatives types d gs t t.of (suc (t.height - 1)) fits lefts.tree refl (omega arith));
    right = subst (λ zs. AreAlternatives types d gs t.of (suc (u.height - 1)) zs)
        (sym rights.is) (node_alternatives types d gs u t.of (suc (u.height - 1)) fits rights.tree same (omega arith));
  }

-- a false literal, where there is nothing to compare
pub never_equal : (d : Trees) (hs : List Gate) (x y : Symbol BoundedTree) (l : Literal) → IsOf hs l
    → ((a : ℕ → Bool) (v w : Value) → symbol_value a (values_of a d.nodes) x ≡ Some v
    → symbol_value a (values_of a d.nodes) y ≡ Some w → ⊥) → IsEqualTest d hs x y l
never_equal d hs x y l of none = record {
  of = of;
  means = λ a v w gives left right. absurd (none a v w left right);
}

pub never_equal_fields : (d : Trees) (hs : List Gate) (m n truth l : Literal) (xs ys : List (Symbol BoundedTree))
    → StandsFor hs truth (λ s. true) → l ≡ opposite truth
    → ((a : ℕ → Bool) (vs ws : List Value) → field_values a (values_of a d.nodes) xs ≡ Some vs
    → field_values a (values_of a d.nodes) ys ≡ Some ws → ⊥) → AreEqualFields d hs m n xs ys l
never_equal_fields d hs m n truth l xs ys is_true negated none = record {
  of = IsOf_negated hs l truth negated is_true.of;
  guard = λ a gives is. absurd (both_ways _
      (lit_value_negated a l truth negated ∙ ap not (is_true.value a gives)) is);
  means = λ a vs ws gives left right one other. absurd (none a vs ws one other);
}

-- ---- constructors

or_cases : (x y : Bool) → (x || y) ≡ true → (x ≡ false) → y ≡ true
or_cases true y e f = cc
or_cases false y e f = e

module _ (types : TypeTable) (d : Trees) (gs fs hs : List Gate) (k m : ℕ) (fits : BoundedFits types d gs)
    (grown : Grows gs fs k) (adds : Grows fs hs m) (left right : BoundedTree) (xs ys : List Alternative)
    (lefts : Side types d gs left xs) (rights : Side types d gs right ys) (first i : ℕ) (any more : Literal)
    (before : EqualBefore d fs xs ys first i any) (step : IsEqualStep d hs xs ys (first + i) any more) where
  module _ (a : ℕ → Bool) (v w : Value) (o : IsOwn a (values_of a d.nodes) xs v) (p : IsOwn a (values_of a d.nodes)
      ys w)
      (gives : Gives a hs) where
    gives_fs : Gives a fs
    gives_fs = Gives_old fs hs m adds a gives

    gives_gs : Gives a gs
    gives_gs = Gives_old gs fs k grown a gives_fs

    old : (lit_value a any ≡ true) ↔ ((v ≡ w) × (o.own.ctor.0 < first + i))
    old = before.means a v w o p gives_fs

    on_left : found o.own.ctor.0 xs ≡ Some o.own
    on_left = found_has o.own.ctor.0 xs o.place o.own (side_order types d gs fits left xs lefts) o.at refl

    on_right : found p.own.ctor.0 ys ≡ Some p.own
    on_right = found_has p.own.ctor.0 ys p.place p.own (side_order types d gs fits right ys rights) p.at refl

    ctors_same : v ≡ w → p.own.ctor.0 ≡ o.own.ctor.0
    ctors_same e = ap (λ (c : CtorId). c.0) (same_ctor p.own.ctor o.own.ctor p.fields o.fields (sym p.value ∙ sym e
        ∙ o.value))

    -- what is true is the own one
    left_own : (x : Alternative) → found (first + i) xs ≡ Some x → lit_value a x.lit ≡ true → x ≡ o.own
    left_own x has is =
        let f = found_some (first + i) xs x has in
        let place = true_once a xs f.place o.place x o.own (side_one types d gs fits left xs lefts a gives_gs) f.at is
        o.at o.is_true in
        same_Some x o.own (sym f.at ∙ ap (slice_get xs) place ∙ o.at)

    right_own : (y : Alternative) → found (first + i) ys ≡ Some y → lit_value a y.lit ≡ true → y ≡ p.own
    right_own y has is =
        let f = found_some (first + i) ys y has in
        let place = true_once a ys f.place p.place y p.own (side_one types d gs fits right ys rights a gives_gs) f.at is
        p.at p.is_true in
        same_Some y p.own (sym f.at ∙ ap (slice_get ys) place ∙ p.at)

    later : (lit_value a any ≡ true) → (v ≡ w) × (o.own.ctor.0 < first + (i + 1))
    later is = let r = old.0 is in (r.0, (let l = r.1 in omega arith))

    earlier : v ≡ w → o.own.ctor.0 < first + (i + 1) → (o.own.ctor.0 ≡ first + i → ⊥) → lit_value a any ≡ true
    earlier e lt not = elim (cases_lt o.own.ctor.0 (first + i)) [
      | inl less ↦ old.1 (e, less)
      | inr past ↦ absurd (not (omega arith))
    ]

    one_step : (q r : Option Alternative) → found (first + i) xs ≡ q → found (first + i) ys ≡ r
        → (lit_value a more ≡ true) ↔ ((v ≡ w) × (o.own.ctor.0 < first + (i + 1)))
    one_step None r e f = (
      λ is. later (ap (lit_value a) (sym (step.left_absent e)) ∙ is),
      λ both. ap (lit_value a) (step.left_absent e) ∙ earlier both.0 both.1 (λ n.
          let no : Some o.own ≡ None = sym on_left ∙ ap (λ c. found c xs) n ∙ e in cc),
    )
    one_step (Some x) None e f = (
      λ is. later (ap (lit_value a) (sym (step.right_absent f)) ∙ is),
      λ both. ap (lit_value a) (step.right_absent f) ∙ earlier both.0 both.1 (λ n.
          let no : Some p.own ≡ None = sym on_right ∙ ap (λ c. found c ys) (ctors_same both.0 ∙ n) ∙ f in cc),
    )
    one_step (Some x) (Some y) e f =
        let s = step.both x y e f in (
          λ is. forward s.0 s.1 (s.2 a gives) is,
          λ both. backward s.0 s.1 (s.2 a gives) both.0 both.1,
        )
      where
        forward : (same : Literal) → AreEqualFields d hs x.lit y.lit x.fields y.fields same
            → lit_value a more ≡ (lit_value a any || lit_value a same) → lit_value a more ≡ true
            → (v ≡ w) × (o.own.ctor.0 < first + (i + 1))
        forward same fields stands is = elim (cases_Bool (lit_value a any)) [
          | inl yes_any ↦ later yes_any
          | inr no_any ↦
              let is_same = or_cases (lit_value a any) (lit_value a same) (sym stands ∙ is) no_any in
              let lits = fields.guard a gives is_same in
              let l = left_own x e lits.0 in
              let r = right_own y f lits.1 in
              let f_left = found_some (first + i) xs x e in
              let f_right = found_some (first + i) ys y f in
              let one = ap (λ (z : Alternative). field_values a (values_of a d.nodes) z.fields) l ∙ o.stand in
              let other = ap (λ (z : Alternative). field_values a (values_of a d.nodes) z.fields) r ∙ p.stand in
              let fs_same = (fields.means a o.fields p.fields gives lits.0 lits.1 one other).0 is_same in
              let c_left : o.own.ctor.0 ≡ first + i = ap (λ (z : Alternative). z.ctor.0) (sym l) ∙ f_left.ctor in
              let c_right : p.own.ctor.0 ≡ first + i = ap (λ (z : Alternative). z.ctor.0) (sym r) ∙ f_right.ctor in
              let cs = ctor_same o.own.ctor p.own.ctor (c_left ∙ sym c_right) in (
                o.value ∙ (λ j. value.Tree (cs j) (fs_same j)) ∙ sym p.value,
                omega (arith, c_left),
              )
        ]

        backward : (same : Literal) → AreEqualFields d hs x.lit y.lit x.fields y.fields same
            → lit_value a more ≡ (lit_value a any || lit_value a same) → v ≡ w → o.own.ctor.0 < first + (i + 1)
            → lit_value a more ≡ true
        backward same fields stands e_vw lt = elim (cases_lt o.own.ctor.0 (first + i)) [
          | inl less ↦ stands ∙ or_left _ _ (old.1 (e_vw, less))
          | inr past ↦
              let n : o.own.ctor.0 ≡ first + i = omega arith in
              let l : o.own ≡ x = same_Some o.own x (sym on_left ∙ ap (λ c. found c xs) n ∙ e) in
              let r : p.own ≡ y = same_Some p.own y (sym on_right ∙ ap (λ c. found c ys) (ctors_same e_vw ∙ n) ∙ f) in
              let one = ap (λ (z : Alternative). field_values a (values_of a d.nodes) z.fields) (sym l) ∙ o.stand in
              let other = ap (λ (z : Alternative). field_values a (values_of a d.nodes) z.fields) (sym r) ∙ p.stand in
              let fs_same = same_fields o.own.ctor p.own.ctor o.fields p.fields (sym o.value ∙ e_vw ∙ p.value) in
              stands ∙ or_right _ _
              ((fields.means a o.fields p.fields gives (ap (λ (z : Alternative). lit_value a z.lit) (sym l) ∙ o.is_true)
              (ap (λ (z : Alternative). lit_value a z.lit) (sym r) ∙ p.is_true) one other).1 fs_same)
        ]

  pub EqualBefore_next : EqualBefore d hs xs ys first (i + 1) more
  EqualBefore_next = record {
    of = step.of;
    means = λ a v w o p gives. one_step a v w o p gives (found (first + i) xs) (found (first + i) ys) refl refl;
  }

pub EqualBefore_none : (d : Trees) (gs : List Gate) (xs ys : List Alternative) (first : ℕ) (truth l : Literal)
    → (low : (a : ℕ → Bool) (v : Value) (o : IsOwn a (values_of a d.nodes) xs v) → first ≤ o.own.ctor.0)
    → StandsFor gs truth (λ s. true) → l ≡ opposite truth → EqualBefore d gs xs ys first 0 l
EqualBefore_none d gs xs ys first truth l low is_true negated = record {
  of = IsOf_negated gs l truth negated is_true.of;
  means = λ a v w o p gives. (
    λ is. absurd (both_ways _
        (lit_value_negated a l truth negated ∙ ap not (is_true.value a gives)) is),
    λ both. absurd (let h = low a v o in let lt = both.1 in omega arith),
  );
}

-- all of them
module _ (types : TypeTable) (d : Trees) (gs hs : List Gate) (fits : BoundedFits types d gs)
    (left right : BoundedTree) (xs ys : List Alternative) (lefts : Side types d gs left xs)
    (rights : Side types d gs right ys) (info : Datatype)
    (at_info : slice_get types.datatypes left.of.0 ≡ Some info) where
  own_of_side : (t : BoundedTree) (zs : List Alternative) → Side types d gs t zs → (a : ℕ → Bool) (v : Value)
      → value_at (values_of a d.nodes) t.number ≡ Some v → IsOwn a (values_of a d.nodes) zs v
  own_of_side t zs side a v is =
      own_of a (values_of a d.nodes) zs v
      (ap (value_among a (values_of a d.nodes)) side.is
      ∙ sym (node_value a gs types d.nodes t.number side.tree.node fits.arena side.tree.at) ∙ is)

  pub own_block : (a : ℕ → Bool) (v : Value) (o : IsOwn a (values_of a d.nodes) xs v)
      → (info.first.0 ≤ o.own.ctor.0) × (o.own.ctor.0 < info.first.0 + length (ctors_of types left.of))
  own_block a v o =
      let own = (fits.arena.each left.number lefts.tree.node lefts.tree.at).each o.place o.own
      (ap (λ zs. slice_get zs o.place) (sym lefts.is) ∙ o.at) in
      let b = in_block_ctor types left.of o.own.ctor.0 own.entry own.at (own.data_of ∙ lefts.tree.data_of) in
      let same : b.datatype ≡ info = same_Some b.datatype info (sym b.at_data ∙ at_info) in
      let n = b.number ∙ ap (λ (t : Datatype). t.first.0 + b.place) same in
      let within = slice_get_within (ctors_of types left.of) b.place own.entry b.at in
      (omega arith, omega arith)

  pub equal_all : (count : ℕ) (any : Literal) → count ≡ length (ctors_of types left.of)
      → EqualBefore d hs xs ys info.first.0 count any → IsEqualTest d hs (symbol.Tree left) (symbol.Tree right) any
  equal_all count any whole before = record {
    of = before.of;
    means = λ a v w gives one other.
        let o = own_of_side left xs lefts a v one in
        let p = own_of_side right ys rights a w other in
        let m = before.means a v w o p gives in (
          λ is. (m.0 is).0,
          λ e. m.1 (e, (let b = (own_block a v o).1 in omega arith)),
        );
  }

-- what two trees of one datatype take
module _ (types : TypeTable) (d : Trees) (gs : List Gate) (fits : BoundedFits types d gs) (left right : BoundedTree)
    (xs ys : List Alternative) (lefts : Side types d gs left xs) (rights : Side types d gs right ys)
    (same : right.of ≡ left.of) (info : Datatype) (at_info : slice_get types.datatypes left.of.0 ≡ Some info) (n : ℕ)
    (whole : n ≡ length (ctors_of types left.of)) where
  pub trees_test : ctors_test types xs ys info.first.0 n ≤ tree_test types left right - 1
  trees_test =
      let p = side_high types d gs fits left xs lefts in
      let q = side_high types d gs fits right ys rights in
      let some = side_ctors types d gs fits left xs lefts in
      ctors_test_all types d gs xs ys (two_trees types d gs fits left right xs ys lefts rights same) info at_info
      (min left.height right.height) (omega arith) n whole (omega arith)
