use Rattle.std.proofs.Common.{◌≡◌, ◌∙◌, ◌+◌, ◌*◌, suc, min, List, [], ◌∷◌, length, sym, ap, arith, subst, le_refl}
use Rattle.pp_prog.specs.declared.sort.Sort.{Sort}
use Rattle.pp_prog.specs.declared.sort.Sort.TheVariants as sort
use Rattle.pp_gate.specs.declared.gate.Gate.{Gate}
use Rattle.pp_gate.proofs.Growing.{AddsGates_more, AddsGates_none, AddsGates_weaker, length-Grows}
use Rattle.pp_gate.proofs.Places.{at_read}
use Rattle.pp_bits.proofs.Growing.{IsOf_negated}
use Rattle.pp_domain.specs.declared.symbol.Symbol.{Symbol}
use Rattle.pp_domain.specs.declared.symbol.Symbol.TheVariants as symbol
use Rattle.pp_domain.specs.Symbols.{AreSymbols, IsSymbol}
use Rattle.pp_domain.proofs.AnySort.{Moves_gates}
use Rattle.pp_domain.proofs.Symbols.{AreSymbols_later}
use Rattle.pp_bounded_trees.specs.declared.arena.Trees.{Trees}
use Rattle.pp_bounded_trees.specs.declared.arena.BoundedTree.{BoundedTree}
use Rattle.pp_bounded_trees.specs.Arena.{TreeFits}
use Rattle.pp_bounded_equal.specs.Below.{AreUnderTest, ctor_nodes, fields_nodes, symbol_nodes, tree_nodes, weight}
use Rattle.pp_bounded_trees.specs.Meaning.{bounded_sense}
use Rattle.pp_bounded_merge.proofs.Adding.{bits_grow}
use Rattle.pp_bounded_trees.proofs.Candidates.{take_next, total_taken, total_within}
use Rattle.pp_bounded_merge.proofs.Chosen.{symbol_at}
use Rattle.pp_bounded_equal.proofs.EqualTree.{no_value, side_rank}
use Rattle.pp_bounded_trees.proofs.Lawful.{bounded_lawful}
use Rattle.pp_bounded_merge.proofs.MergedCtors.{found_ctor}
use Rattle.pp_bounded_merge.proofs.Ranks.{rank_in, ranks, top_found}
use Rattle.pp_bounded_trees.proofs.Reading.{rank}
use Rattle.pp_bounded_equal.proofs.SearchTree.{BelowBefore_next, BelowBefore_none, below_all, ctors_nodes_grow}
use Rattle.pp_bounded_equal.proofs.SearchTree.{ctors_nodes_next, nodes_some, one_side, own_in_block, side_nodes}
use Rattle.pp_bounded_equal.proofs.SearchTree.{times_grow, times_one, times_plus}
use Rattle.pp_bounded_equal.proofs.Searching.{AreUnderTest_leaf, AreUnderTest_push, under_apart, under_bit}
use Rattle.pp_bounded_equal.proofs.Searching.{under_field, under_same, under_word}
use Rattle.pp_bounded_merge.proofs.Sides.{alternatives_moved, nil_from, side_data, side_read, side_high}
use Rattle.pp_bounded_equal.proofs.below.+below.Goals as goal

-- ---- one constructor

pub below_ctor-below_fields-requires : goal.below_ctor-below_fields-requires
below_ctor-below_fields-requires t c =
    let s = c.requires.side in
    let p = found_ctor c.args.table.now c.args.trees.now c.args.circuit.now s.of s.h c.args.side.now c.args.ctor.0
    c.in-Some.x.now s.all (sym c.in-Some.ensures) in
    let fields = c.as_slice.ensures in
    let top = top_found c.args.side.now c.args.ctor.0 c.in-Some.x.now (sym c.in-Some.ensures) in
    let low = ap ranks fields in
    let size = ap (λ n. weight c.args.table.now c.args.new.now * n)
    (ap (fields_nodes c.args.table.now) fields ∙ ap (ctor_nodes c.args.table.now) c.in-Some.ensures) in (
      omega arith,
      (
        c.requires.fits,
        (
          c.requires.new,
          (
            p.lit_of,
            (
              (
                p.entry.fields,
                subst (λ (xs : List (Symbol BoundedTree)). AreSymbols bounded_sense c.args.trees.now c.args.circuit.now
                    p.entry.fields xs) (sym fields) p.symbols,
              ),
              (c.requires.any, (let room = c.requires.room in omega arith)),
            ),
          ),
        ),
      ),
    )

-- ---- one field

pub below_field-returns-in-Word-clause-test : goal.below_field-returns-in-Word-clause-test
below_field-returns-in-Word-clause-test t c = rw c.in-Word.is
    (under_word _ _ _ c.requires.fits _ c.requires.new _ _ _ c.requires.any _)

pub below_field-returns-in-Bit-clause-test : goal.below_field-returns-in-Bit-clause-test
below_field-returns-in-Bit-clause-test t c = rw c.in-Bit.is
    (under_bit _ _ _ c.requires.fits _ c.requires.new _ _ _ c.requires.any _)

-- a field that is a tree names a node
field_tree : (d : Trees) (gs : List Gate) (s : Sort) (x : Symbol BoundedTree) (t : BoundedTree)
    → IsSymbol bounded_sense d gs s x → x ≡ symbol.Tree t → TreeFits d.nodes (length d.nodes) t
field_tree d gs s x t is e = by s (subst (λ (y : Symbol BoundedTree). IsSymbol bounded_sense d gs s y) e is)
  where
    by : (s : Sort) → IsSymbol bounded_sense d gs s (symbol.Tree t) → TreeFits d.nodes (length d.nodes) t
    by sort.Int is = absurd is
    by sort.Bool is = absurd is
    by (sort.Tree of) is = is.0

pub below_field-returns-then-is_empty-clause-test : goal.below_field-returns-then-is_empty-clause-test
below_field-returns-then-is_empty-clause-test t c =
    let tree = field_tree c.args.trees.now c.args.circuit.now c.requires.field.0 c.args.field.now c.in-Tree.tree
    c.requires.field.1 c.in-Tree.is in
    let empty = sym (c.alternatives.ensures.is tree.node tree.at) ∙ nil_from _ _ c.is_empty.ensures
    c.if-is_empty.true in
    subst (λ (x : Symbol BoundedTree). AreUnderTest c.args.trees.now c.args.circuit.now c.args.new.now c.args.lit
    c.args.any c.args.any (x ∷ [])) (sym c.in-Tree.is)
    (AreUnderTest_leaf c.args.table.now c.args.trees.now c.args.circuit.now c.requires.fits c.args.new.now
    c.requires.new c.args.circuit.now c.args.lit c.args.any c.requires.any (symbol.Tree c.in-Tree.tree)
    (λ a v w is_data is rel. no_value c.args.table.now c.args.trees.now c.args.circuit.now c.requires.fits
    c.in-Tree.tree tree empty a w is))

pub below_field-under_tree-requires : goal.below_field-under_tree-requires
below_field-under_tree-requires t c =
    let tree = field_tree c.args.trees.now c.args.circuit.now c.requires.field.0 c.args.field.now c.in-Tree.tree
    c.requires.field.1 c.in-Tree.is in
    let side = side_read c.args.table.now c.args.trees.now c.args.circuit.now c.in-Tree.tree _ _ tree
    c.alternatives.ensures c.is_empty.ensures c.if-is_empty.false in
    let high = side_high c.args.table.now c.args.trees.now c.args.circuit.now c.requires.fits c.in-Tree.tree _ side in
    let some = nodes_some c.args.table.now c.in-Tree.tree.height c.in-Tree.tree.of high in
    let own = ap (λ n. weight c.args.table.now c.args.new.now * n) (ap (symbol_nodes c.args.table.now) c.in-Tree.is) in
    let one = times_one (weight c.args.table.now c.args.new.now) (tree_nodes c.args.table.now c.in-Tree.tree) some in
    let low = ap rank c.in-Tree.is in
    (omega arith, (c.requires.fits, (c.requires.new, (tree, (let room = c.requires.room in omega arith)))))

pub below_field-returns-in_err-under-in-Tree-clause-adds : goal.below_field-returns-in_err-under-in-Tree-clause-adds
below_field-returns-in_err-under-in-Tree-clause-adds t c =
    let tree = field_tree c.args.trees.now c.args.circuit.now c.requires.field.0 c.args.field.now c.in-Tree.tree
    c.requires.field.1 c.in-Tree.is in
    let side = side_read c.args.table.now c.args.trees.now c.args.circuit.now c.in-Tree.tree _ _ tree
    c.alternatives.ensures c.is_empty.ensures c.if-is_empty.false in
    let high = side_high c.args.table.now c.args.trees.now c.args.circuit.now c.requires.fits c.in-Tree.tree _ side in
    let some = nodes_some c.args.table.now c.in-Tree.tree.height c.in-Tree.tree.of high in
    let own = ap (λ n. weight c.args.table.now c.args.new.now * n) (ap (symbol_nodes c.args.table.now) c.in-Tree.is) in
    let one = times_one (weight c.args.table.now c.args.new.now) (tree_nodes c.args.table.now c.in-Tree.tree) some in
    AddsGates_weaker _ _ _ _ c.in_err-under-in-Tree.ensures.adds (omega arith)

pub below_field-and-requires-clause-room : goal.below_field-and-requires-clause-room
below_field-and-requires-clause-room t c =
    let tree = field_tree c.args.trees.now c.args.circuit.now c.requires.field.0 c.args.field.now c.in-Tree.tree
    c.requires.field.1 c.in-Tree.is in
    let side = side_read c.args.table.now c.args.trees.now c.args.circuit.now c.in-Tree.tree _ _ tree
    c.alternatives.ensures c.is_empty.ensures c.if-is_empty.false in
    let high = side_high c.args.table.now c.args.trees.now c.args.circuit.now c.requires.fits c.in-Tree.tree _ side in
    let some = nodes_some c.args.table.now c.in-Tree.tree.height c.in-Tree.tree.of high in
    let own = ap (λ n. weight c.args.table.now c.args.new.now * n) (ap (symbol_nodes c.args.table.now) c.in-Tree.is) in
    let one = times_one (weight c.args.table.now c.args.new.now) (tree_nodes c.args.table.now c.in-Tree.tree) some in
    let grown = (length-Grows _ _ _ c.in_ok-under-in-Tree.ensures.adds.grows).1 in
    (let room = c.requires.room in omega arith)

pub below_field-returns-in_err-here-in-Tree-clause-adds : goal.below_field-returns-in_err-here-in-Tree-clause-adds
below_field-returns-in_err-here-in-Tree-clause-adds t c =
    let tree = field_tree c.args.trees.now c.args.circuit.now c.requires.field.0 c.args.field.now c.in-Tree.tree
    c.requires.field.1 c.in-Tree.is in
    let side = side_read c.args.table.now c.args.trees.now c.args.circuit.now c.in-Tree.tree _ _ tree
    c.alternatives.ensures c.is_empty.ensures c.if-is_empty.false in
    let high = side_high c.args.table.now c.args.trees.now c.args.circuit.now c.requires.fits c.in-Tree.tree _ side in
    let some = nodes_some c.args.table.now c.in-Tree.tree.height c.in-Tree.tree.of high in
    let own = ap (λ n. weight c.args.table.now c.args.new.now * n) (ap (symbol_nodes c.args.table.now) c.in-Tree.is) in
    let one = times_one (weight c.args.table.now c.args.new.now) (tree_nodes c.args.table.now c.in-Tree.tree) some in
    AddsGates_more _ _ _ _ 1 _ c.in_ok-under-in-Tree.ensures.adds c.in_err-here-in-Tree.ensures.adds (omega arith)

pub below_field-or-requires-clause-room : goal.below_field-or-requires-clause-room
below_field-or-requires-clause-room t c =
    let tree = field_tree c.args.trees.now c.args.circuit.now c.requires.field.0 c.args.field.now c.in-Tree.tree
    c.requires.field.1 c.in-Tree.is in
    let side = side_read c.args.table.now c.args.trees.now c.args.circuit.now c.in-Tree.tree _ _ tree
    c.alternatives.ensures c.is_empty.ensures c.if-is_empty.false in
    let high = side_high c.args.table.now c.args.trees.now c.args.circuit.now c.requires.fits c.in-Tree.tree _ side in
    let some = nodes_some c.args.table.now c.in-Tree.tree.height c.in-Tree.tree.of high in
    let own = ap (λ n. weight c.args.table.now c.args.new.now * n) (ap (symbol_nodes c.args.table.now) c.in-Tree.is) in
    let one = times_one (weight c.args.table.now c.args.new.now) (tree_nodes c.args.table.now c.in-Tree.tree) some in
    let grown = (length-Grows _ _ _ c.in_ok-under-in-Tree.ensures.adds.grows).1 in
    let more = (length-Grows _ _ _ c.in_ok-here-in-Tree.ensures.adds.grows).1 in
    (let room = c.requires.room in omega arith)

pub below_field-returns-in_err-more-in-Tree-clause-adds : goal.below_field-returns-in_err-more-in-Tree-clause-adds
below_field-returns-in_err-more-in-Tree-clause-adds t c =
    let tree = field_tree c.args.trees.now c.args.circuit.now c.requires.field.0 c.args.field.now c.in-Tree.tree
    c.requires.field.1 c.in-Tree.is in
    let side = side_read c.args.table.now c.args.trees.now c.args.circuit.now c.in-Tree.tree _ _ tree
    c.alternatives.ensures c.is_empty.ensures c.if-is_empty.false in
    let high = side_high c.args.table.now c.args.trees.now c.args.circuit.now c.requires.fits c.in-Tree.tree _ side in
    let some = nodes_some c.args.table.now c.in-Tree.tree.height c.in-Tree.tree.of high in
    let own = ap (λ n. weight c.args.table.now c.args.new.now * n) (ap (symbol_nodes c.args.table.now) c.in-Tree.is) in
    let one = times_one (weight c.args.table.now c.args.new.now) (tree_nodes c.args.table.now c.in-Tree.tree) some in
    AddsGates_more _ _ _ _ 2 _ c.in_ok-under-in-Tree.ensures.adds
    (AddsGates_more _ _ _ 1 1 2 c.in_ok-here-in-Tree.ensures.adds c.in_err-more-in-Tree.ensures.adds (omega arith))
    (omega arith)

pub below_field-returns-in_ok-more-in-Tree-clause-adds : goal.below_field-returns-in_ok-more-in-Tree-clause-adds
below_field-returns-in_ok-more-in-Tree-clause-adds t c =
    let tree = field_tree c.args.trees.now c.args.circuit.now c.requires.field.0 c.args.field.now c.in-Tree.tree
    c.requires.field.1 c.in-Tree.is in
    let side = side_read c.args.table.now c.args.trees.now c.args.circuit.now c.in-Tree.tree _ _ tree
    c.alternatives.ensures c.is_empty.ensures c.if-is_empty.false in
    let high = side_high c.args.table.now c.args.trees.now c.args.circuit.now c.requires.fits c.in-Tree.tree _ side in
    let some = nodes_some c.args.table.now c.in-Tree.tree.height c.in-Tree.tree.of high in
    let own = ap (λ n. weight c.args.table.now c.args.new.now * n) (ap (symbol_nodes c.args.table.now) c.in-Tree.is) in
    let one = times_one (weight c.args.table.now c.args.new.now) (tree_nodes c.args.table.now c.in-Tree.tree) some in
    AddsGates_more _ _ _ _ 2 _ c.in_ok-under-in-Tree.ensures.adds
    (AddsGates_more _ _ _ 1 1 2 c.in_ok-here-in-Tree.ensures.adds c.in_ok-more-in-Tree.ensures.adds (omega arith))
    (omega arith)

pub below_field-returns-in_ok-more-in-Tree-clause-test : goal.below_field-returns-in_ok-more-in-Tree-clause-test
below_field-returns-in_ok-more-in-Tree-clause-test t c =
    subst (λ (x : Symbol BoundedTree). AreUnderTest c.args.trees.now c.or.new.self c.args.new.now c.args.lit
    c.args.any c.in_ok-more-in-Tree.more (x ∷ [])) (sym c.in-Tree.is)
    (under_field _ _ _ _ _ _ _ _ _ _ c.in_ok-under-in-Tree.under c.in_ok-here-in-Tree.here _
    c.in_ok-here-in-Tree.ensures.adds c.in_ok-more-in-Tree.ensures.adds c.in_ok-under-in-Tree.ensures.test
    c.in_ok-here-in-Tree.ensures.stands c.in_ok-more-in-Tree.ensures.stands)

-- ---- fields

pub below_fields-below_field-requires : goal.below_fields-below_field-requires
below_fields-below_field-requires t c =
    let at = at_read c.args.fields.now c.loop-place.place c.index-fields-place.result c.loop-place-test.true
    c.index-fields-place.is in
    let taken = total_taken (symbol_nodes c.args.table.now) c.args.fields.now c.loop-place.place _ at in
    let within = total_within (symbol_nodes c.args.table.now) c.args.fields.now (c.loop-place.place + 1) in
    let next = times_plus (weight c.args.table.now c.args.new.now) _ _ _ taken in
    let whole = times_grow (weight c.args.table.now c.args.new.now) _ _ within in
    let now = c.loop-place.invariant in
    let moves = Moves_gates bounded_sense c.args.table.now bounded_lawful c.args.trees.now c.args.circuit.now
    c.loop-place.circuit _ c.requires.fits now.adds in
    let own = symbol_at c.args.trees.now c.loop-place.circuit c.requires.fields.0 c.args.fields.now c.loop-place.place
    c.index-fields-place.result (AreSymbols_later bounded_sense c.args.table.now c.args.trees.now c.args.trees.now
    c.args.circuit.now c.loop-place.circuit _ _ _ moves c.requires.fields.1) at in
    let low = rank_in c.args.fields.now c.loop-place.place c.index-fields-place.result at in
    let grown = (length-Grows _ _ _ now.adds.grows).1 in (
      omega arith,
      (
        moves.fits,
        (
          c.requires.new,
          (
            now.adds.literals _ c.requires.lit,
            (
              (own.sort, own.is),
              (now.test.of, (let room = c.requires.room in omega arith)),
            ),
          ),
        ),
      ),
    )

pub below_fields-returns-in_err-more-clause-adds : goal.below_fields-returns-in_err-more-clause-adds
below_fields-returns-in_err-more-clause-adds t c =
    let at = at_read c.args.fields.now c.loop-place.place c.index-fields-place.result c.loop-place-test.true
    c.index-fields-place.is in
    let taken = total_taken (symbol_nodes c.args.table.now) c.args.fields.now c.loop-place.place _ at in
    let within = total_within (symbol_nodes c.args.table.now) c.args.fields.now (c.loop-place.place + 1) in
    let next = times_plus (weight c.args.table.now c.args.new.now) _ _ _ taken in
    let whole = times_grow (weight c.args.table.now c.args.new.now) _ _ within in
    AddsGates_more _ _ _ _ _ _ c.loop-place.invariant.adds c.in_err-more.ensures.adds (omega arith)

pub below_fields-loop-place-preserved : goal.below_fields-loop-place-preserved
below_fields-loop-place-preserved t c =
    let at = at_read c.args.fields.now c.loop-place.place c.index-fields-place.result c.loop-place-test.true
    c.index-fields-place.is in
    let taken = total_taken (symbol_nodes c.args.table.now) c.args.fields.now c.loop-place.place _ at in
    let within = total_within (symbol_nodes c.args.table.now) c.args.fields.now (c.loop-place.place + 1) in
    let next = times_plus (weight c.args.table.now c.args.new.now) _ _ _ taken in
    let whole = times_grow (weight c.args.table.now c.args.new.now) _ _ within in
    let now = c.loop-place.invariant in
    record {
      adds = AddsGates_more _ _ _ _ _ _ now.adds c.in_ok-more.ensures.adds (omega arith);
      test = subst (λ (xs : List (Symbol BoundedTree)). AreUnderTest c.args.trees.now c.below_field.new.circuit
          c.args.new.now c.args.lit c.args.any c.in_ok-more.more xs)
          (sym (take_next c.args.fields.now c.loop-place.place _ at))
          (AreUnderTest_push _ _ _ _ _ _ _ _ _ _ _ c.in_ok-more.ensures.adds now.test c.in_ok-more.ensures.test);
    }

-- ---- a tree

pub below_tree-returns-then-is_empty-clause-test : goal.below_tree-returns-then-is_empty-clause-test
below_tree-returns-then-is_empty-clause-test t c =
    let tree = c.requires.old in
    let empty = sym (c.alternatives-side.ensures.is tree.node tree.at)
    ∙ nil_from _ _ c.is_empty.ensures c.if-is_empty.true in
    record {
      of = IsOf_negated _ _ _ c.negated-any.ensures c.truth.ensures.stands.of;
      means = λ a v w gives one other. absurd (no_value c.args.table.now c.args.trees.now c.args.circuit.now
          c.requires.fits c.args.old.now tree empty a w other);
    }

pub below_tree-datatype-requires : goal.below_tree-datatype-requires
below_tree-datatype-requires t c =
    let side = side_read c.args.table.now c.args.trees.now c.args.circuit.now c.args.old.now _ _ c.requires.old
    c.alternatives-side.ensures c.is_empty.ensures c.if-is_empty.false in
    side_data c.args.table.now c.args.trees.now c.args.circuit.now c.requires.fits c.args.old.now _ side

pub below_tree-loop-place-init : goal.below_tree-loop-place-init
below_tree-loop-place-init t c =
    let side = side_read c.args.table.now c.args.trees.now c.args.circuit.now c.args.old.now _ _ c.requires.old
    c.alternatives-side.ensures c.is_empty.ensures c.if-is_empty.false in
    record {
      adds = AddsGates_none _ _ c.requires.fits.circuit;
      before = BelowBefore_none _ _ _ _ _ c.truth.result _
          (λ a w o. (own_in_block c.args.table.now c.args.trees.now c.args.circuit.now c.args.circuit.now
          c.requires.fits
          c.args.new.now c.args.old.now _ side c.datatype.result.now c.datatype.ensures a w o).0)
          c.truth.ensures.stands c.negated-any.ensures;
    }

pub below_tree-below_ctor-requires : goal.below_tree-below_ctor-requires
below_tree-below_ctor-requires t c =
    let side = side_read c.args.table.now c.args.trees.now c.args.circuit.now c.args.old.now _ _ c.requires.old
    c.alternatives-side.ensures c.is_empty.ensures c.if-is_empty.false in
    let count = ap length c.ctors_of-place-end.ensures in
    let w = weight c.args.table.now c.args.new.now in
    let size = times_grow w _ _ (side_nodes c.args.table.now c.args.trees.now c.args.circuit.now c.args.circuit.now
    c.requires.fits c.args.new.now c.args.old.now _ side c.datatype.result.now c.datatype.ensures _ count) in
    let next = times_plus w _ _ _ (ctors_nodes_next c.args.table.now c.alternatives-side.result.now
    c.datatype.result.now.first.0 c.loop-place.place) in
    let grow = times_grow w _ _ (ctors_nodes_grow c.args.table.now c.alternatives-side.result.now
    c.datatype.result.now.first.0 (c.loop-place.place + 1)
    (length c.ctors_of-place-end.result.now) (let lt = c.loop-place-test.true in omega arith)) in
    let now = c.loop-place.invariant in
    let moves = Moves_gates bounded_sense c.args.table.now bounded_lawful c.args.trees.now c.args.circuit.now
    c.loop-place.circuit _ c.requires.fits now.adds in
    let one = one_side c.args.table.now c.args.trees.now c.args.circuit.now c.args.circuit.now c.requires.fits
    c.args.new.now c.args.old.now _ side c.datatype.result.now c.datatype.ensures in
    let low = side_rank c.args.table.now c.args.trees.now c.args.circuit.now c.requires.fits c.args.old.now _ side in
    let grown = (length-Grows _ _ _ now.adds.grows).1 in (
      omega arith,
      (
        moves.fits,
        (
          c.requires.new,
          (
            record {
              of = one.of;
              h = one.h;
              all = alternatives_moved _ _ _ _ _ _ moves one.of (suc one.h) _ one.all;
            },
            (now.before.of, (let room = c.requires.room in omega arith)),
          ),
        ),
      ),
    )

pub below_tree-returns-in_err-any-clause-adds : goal.below_tree-returns-in_err-any-clause-adds
below_tree-returns-in_err-any-clause-adds t c =
    let side = side_read c.args.table.now c.args.trees.now c.args.circuit.now c.args.old.now _ _ c.requires.old
    c.alternatives-side.ensures c.is_empty.ensures c.if-is_empty.false in
    let count = ap length c.ctors_of-place-end.ensures in
    let w = weight c.args.table.now c.args.new.now in
    let size = times_grow w _ _ (side_nodes c.args.table.now c.args.trees.now c.args.circuit.now c.args.circuit.now
    c.requires.fits c.args.new.now c.args.old.now _ side c.datatype.result.now c.datatype.ensures _ count) in
    let next = times_plus w _ _ _ (ctors_nodes_next c.args.table.now c.alternatives-side.result.now
    c.datatype.result.now.first.0 c.loop-place.place) in
    let grow = times_grow w _ _ (ctors_nodes_grow c.args.table.now c.alternatives-side.result.now
    c.datatype.result.now.first.0 (c.loop-place.place + 1)
    (length c.ctors_of-place-end.result.now) (let lt = c.loop-place-test.true in omega arith)) in
    AddsGates_more _ _ _ _ _ _ c.loop-place.invariant.adds c.in_err-any.ensures.adds (omega arith)

pub below_tree-loop-place-preserved : goal.below_tree-loop-place-preserved
below_tree-loop-place-preserved t c =
    let side = side_read c.args.table.now c.args.trees.now c.args.circuit.now c.args.old.now _ _ c.requires.old
    c.alternatives-side.ensures c.is_empty.ensures c.if-is_empty.false in
    let now = c.loop-place.invariant in
    let next = times_plus (weight c.args.table.now c.args.new.now) _ _ _
    (ctors_nodes_next c.args.table.now c.alternatives-side.result.now
    c.datatype.result.now.first.0 c.loop-place.place) in
    record {
      adds = AddsGates_more _ _ _ _ _ _ now.adds c.in_ok-any.ensures.adds (omega arith);
      before = BelowBefore_next c.args.table.now c.args.trees.now c.args.circuit.now c.loop-place.circuit
          c.below_ctor.new.circuit _ _ c.requires.fits now.adds.grows c.in_ok-any.ensures.adds.grows c.args.new.now
          c.args.old.now _ side c.datatype.result.now.first.0 c.loop-place.place c.loop-place.any
          c.in_ok-any.any now.before c.in_ok-any.ensures.step;
    }

pub below_tree-returns-clause-adds : goal.below_tree-returns-clause-adds
below_tree-returns-clause-adds t c =
    let side = side_read c.args.table.now c.args.trees.now c.args.circuit.now c.args.old.now _ _ c.requires.old
    c.alternatives-side.ensures c.is_empty.ensures c.if-is_empty.false in
    let count = ap length c.ctors_of-place-end.ensures in
    let w = weight c.args.table.now c.args.new.now in
    let size = times_grow w _ _ (side_nodes c.args.table.now c.args.trees.now c.args.circuit.now c.args.circuit.now
    c.requires.fits c.args.new.now c.args.old.now _ side c.datatype.result.now c.datatype.ensures _ count) in
    let grow = times_grow w _ _ (ctors_nodes_grow c.args.table.now c.alternatives-side.result.now
    c.datatype.result.now.first.0 c.loop-place.place
    (length c.ctors_of-place-end.result.now) c.loop-place.auto.place-end) in
    AddsGates_weaker _ _ _ _ c.loop-place.invariant.adds (omega arith)

pub below_tree-returns-clause-test : goal.below_tree-returns-clause-test
below_tree-returns-clause-test t c =
    let side = side_read c.args.table.now c.args.trees.now c.args.circuit.now c.args.old.now _ _ c.requires.old
    c.alternatives-side.ensures c.is_empty.ensures c.if-is_empty.false in
    let count = ap length c.ctors_of-place-end.ensures in
    below_all c.args.table.now c.args.trees.now c.args.circuit.now c.loop-place.circuit c.requires.fits c.args.new.now
    c.args.old.now _ side c.datatype.result.now c.datatype.ensures c.loop-place.place c.loop-place.any
    (let f = c.loop-place-test.false in let e = c.loop-place.auto.place-end in omega arith)
    c.loop-place.invariant.before

-- ---- the same or below

pub under_tree-returns-then-new-old-clause-test : goal.under_tree-returns-then-new-old-clause-test
under_tree-returns-then-new-old-clause-test t c =
    under_apart c.args.table.now c.args.trees.now c.args.circuit.now c.below_tree.new.circuit c.args.new.now
    c.args.old.now c.in_ok-below.below c.requires.fits c.requires.new c.requires.old c.if-new-old.true
    c.in_ok-below.ensures.test

pub under_tree-equal_tree-requires-clause-fits : goal.under_tree-equal_tree-requires-clause-fits
under_tree-equal_tree-requires-clause-fits t c =
    (Moves_gates bounded_sense c.args.table.now bounded_lawful c.args.trees.now c.args.circuit.now
    c.below_tree.new.circuit _ c.requires.fits c.in_ok-below.ensures.adds).fits

pub under_tree-equal_tree-requires-clause-room : goal.under_tree-equal_tree-requires-clause-room
under_tree-equal_tree-requires-clause-room t c =
    let grow = bits_grow c.args.table.now (min c.args.new.now.height c.args.old.now.height) c.args.new.now.height
    (sort.Tree c.args.new.now.of) (omega arith) in
    let grown = (length-Grows _ _ _ c.in_ok-below.ensures.adds.grows).1 in
    (let room = c.requires.room in omega arith)

pub under_tree-returns-in_err-same-clause-adds : goal.under_tree-returns-in_err-same-clause-adds
under_tree-returns-in_err-same-clause-adds t c =
    let grow = bits_grow c.args.table.now (min c.args.new.now.height c.args.old.now.height) c.args.new.now.height
    (sort.Tree c.args.new.now.of) (omega arith) in
    AddsGates_more _ _ _ _ _ _ c.in_ok-below.ensures.adds c.in_err-same.ensures.adds (omega arith)

pub under_tree-or-requires-clause-room : goal.under_tree-or-requires-clause-room
under_tree-or-requires-clause-room t c =
    let grow = bits_grow c.args.table.now (min c.args.new.now.height c.args.old.now.height) c.args.new.now.height
    (sort.Tree c.args.new.now.of) (omega arith) in
    let grown = (length-Grows _ _ _ c.in_ok-below.ensures.adds.grows).1 in
    let more = (length-Grows _ _ _ c.in_ok-same.ensures.adds.grows).1 in
    (let room = c.requires.room in omega arith)

pub under_tree-returns-in_err-under-clause-adds : goal.under_tree-returns-in_err-under-clause-adds
under_tree-returns-in_err-under-clause-adds t c =
    let grow = bits_grow c.args.table.now (min c.args.new.now.height c.args.old.now.height) c.args.new.now.height
    (sort.Tree c.args.new.now.of) (omega arith) in
    AddsGates_more _ _ _ _ 1 _ (AddsGates_more _ _ _ _ _ _ c.in_ok-below.ensures.adds c.in_ok-same.ensures.adds
    (le_refl _)) c.in_err-under.ensures.adds (omega arith)

pub under_tree-returns-clause-adds : goal.under_tree-returns-clause-adds
under_tree-returns-clause-adds t c =
    let grow = bits_grow c.args.table.now (min c.args.new.now.height c.args.old.now.height) c.args.new.now.height
    (sort.Tree c.args.new.now.of) (omega arith) in
    AddsGates_more _ _ _ _ 1 _ (AddsGates_more _ _ _ _ _ _ c.in_ok-below.ensures.adds c.in_ok-same.ensures.adds
    (le_refl _)) c.in_ok-under.ensures.adds (omega arith)

pub under_tree-returns-clause-test : goal.under_tree-returns-clause-test
under_tree-returns-clause-test t c =
    under_same _ _ _ _ _ _ _ _ c.in_ok-below.below c.in_ok-same.same _ c.in_ok-same.ensures.adds
    c.in_ok-under.ensures.adds c.in_ok-below.ensures.test c.in_ok-same.ensures.test c.in_ok-under.ensures.stands
