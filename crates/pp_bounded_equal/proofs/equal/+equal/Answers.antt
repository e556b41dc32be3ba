use Rattle.std.proofs.Common.{◌≡◌, ◌∙◌, ◌+◌, suc, List, [], ◌∷◌, ◌++◌, length, take, Option, Some, None, sym, le_refl}
use Rattle.std.proofs.Common.{ap, arith, subst}
use Rattle.std.proofs.lemmas.List.{take_all}
use Rattle.pp_prog.specs.declared.types.TypeTable.{TypeTable}
use Rattle.pp_gate.proofs.Growing.{AddsGates_more, AddsGates_none, AddsGates_weaker, length-Grows}
use Rattle.pp_bits.proofs.Growing.{IsOf_negated}
use Rattle.pp_domain.specs.declared.symbol.Symbol.{Symbol}
use Rattle.pp_domain.specs.Symbols.{AreSymbols}
use Rattle.pp_domain.proofs.AnySort.{Moves_gates}
use Rattle.pp_bounded_trees.specs.declared.arena.Alternative.{Alternative}
use Rattle.pp_bounded_trees.specs.declared.arena.BoundedTree.{BoundedTree}
use Rattle.pp_bounded_equal.specs.Equal.{AreEqualFields, joined_test, pairs_test}
use Rattle.pp_bounded_trees.specs.Meaning.{bounded_sense}
use Rattle.pp_bounded_merge.specs.Merge.{AreOfSorts}
use Rattle.pp_bounded_trees.specs.Values.{symbol_value, values_of}
use Rattle.pp_bounded_trees.proofs.Candidates.{take_next}
use Rattle.pp_bounded_equal.proofs.Compared.{AreEqualFields_none, AreEqualFields_of, AreEqualFields_push}
use Rattle.pp_bounded_equal.proofs.Compared.{ctors_test_grow, ctors_test_next, tests_taken, tests_within, two_entries}
use Rattle.pp_bounded_equal.proofs.EqualTree.{EqualBefore_next, EqualBefore_none, equal_all, in_arena, never_equal}
use Rattle.pp_bounded_equal.proofs.EqualTree.{never_equal_fields, no_value, none_has, side_rank, own_block, test_some}
use Rattle.pp_bounded_equal.proofs.EqualTree.{trees_test, two_trees}
use Rattle.pp_bounded_trees.proofs.Lawful.{bounded_lawful}
use Rattle.pp_bounded_merge.proofs.MergedCtors.{found_ctor}
use Rattle.pp_bounded_merge.proofs.Ranks.{rank_in, ranks, top_found}
use Rattle.pp_bounded_trees.proofs.Reading.{value_there}
use Rattle.pp_bounded_merge.proofs.Sides.{AreOfSorts_later, alternatives_moved, nil_from, pair_at, pair_read}
use Rattle.pp_bounded_merge.proofs.Sides.{right_within, side_data, side_read, whole_right}
use Rattle.pp_bounded_equal.proofs.equal.+equal.Goals as goal

-- ---- one constructor

pub equal_ctor-and-requires-clause-left : goal.equal_ctor-and-requires-clause-left
equal_ctor-and-requires-clause-left t c =
    let s = c.requires.sides in
    (found_ctor c.args.table.now c.args.trees.now c.args.circuit.now s.of s.left_height c.args.left.now c.args.ctor.0
    c.in-Some-Some.x.now s.left (sym c.in-Some-Some.ensures)).lit_of

pub equal_ctor-and-requires-clause-right : goal.equal_ctor-and-requires-clause-right
equal_ctor-and-requires-clause-right t c =
    let s = c.requires.sides in
    (found_ctor c.args.table.now c.args.trees.now c.args.circuit.now s.of s.right_height c.args.right.now c.args.ctor.0
    c.in-Some-Some.y.now s.right (sym c.in-Some-Some.ensures')).lit_of

of_both : (types : TypeTable) (o p : Option Alternative) (x y : Alternative) → Some x ≡ o → Some y ≡ p
    → joined_test types o p ≡ 2 + pairs_test types x.fields y.fields
of_both types o p x y e f = λ i. joined_test types (sym e i) (sym f i)

pub equal_ctor-equal_fields-requires : goal.equal_ctor-equal_fields-requires
equal_ctor-equal_fields-requires t c =
    let s = c.requires.sides in
    let lit = c.in_ok-both-in-Some-Some.ensures in
    let moves = Moves_gates bounded_sense c.args.table.now bounded_lawful c.args.trees.now c.args.circuit.now
    c.and.new.self 1 c.requires.fits lit.adds in
    let p = found_ctor c.args.table.now c.args.trees.now c.args.circuit.now s.of s.left_height c.args.left.now
    c.args.ctor.0 c.in-Some-Some.x.now s.left (sym c.in-Some-Some.ensures) in
    let q = found_ctor c.args.table.now c.args.trees.now c.args.circuit.now s.of s.right_height c.args.right.now
    c.args.ctor.0 c.in-Some-Some.y.now s.right (sym c.in-Some-Some.ensures') in
    let same = two_entries c.args.table.now c.args.trees.now c.args.circuit.now c.args.left.now c.args.right.now s
    c.args.ctor.0 c.in-Some-Some.x.now c.in-Some-Some.y.now p q in
    let sorts : AreOfSorts c.args.trees.now c.args.circuit.now c.in-Some-Some.x.now.fields
    c.in-Some-Some.y.now.fields = record {
      sorts = p.entry.fields;
      left = p.symbols;
      right = subst (λ k. AreSymbols bounded_sense c.args.trees.now c.args.circuit.now k.fields
          c.in-Some-Some.y.now.fields) same q.symbols;
    } in
    let all = of_both c.args.table.now _ _ c.in-Some-Some.x.now c.in-Some-Some.y.now c.in-Some-Some.ensures
    c.in-Some-Some.ensures' in
    let lefts = c.as_slice.ensures in
    let rights = c.as_slice-in-Some-Some.ensures in
    let size : pairs_test c.args.table.now c.as_slice.result.now c.as_slice-in-Some-Some.result.now
    ≡ pairs_test c.args.table.now c.in-Some-Some.x.now.fields c.in-Some-Some.y.now.fields =
    λ i. pairs_test c.args.table.now (lefts i) (rights i) in
    let top = top_found c.args.left.now c.args.ctor.0 c.in-Some-Some.x.now (sym c.in-Some-Some.ensures) in
    let low = ap ranks lefts in
    let grown = (length-Grows _ _ _ lit.adds.grows).1 in (
      omega arith,
      (
        moves.fits,
        (
          lit.stands.of,
          (
            subst (λ (xs : List (Symbol BoundedTree)). AreOfSorts c.args.trees.now c.and.new.self xs
                c.as_slice-in-Some-Some.result.now) (sym lefts)
                (subst (λ (ys : List (Symbol BoundedTree)). AreOfSorts c.args.trees.now c.and.new.self
                c.in-Some-Some.x.now.fields ys) (sym rights)
                (AreOfSorts_later _ _ _ _ _ _ moves _ _ sorts)),
            (let room = c.requires.room in omega arith),
          ),
        ),
      ),
    )

pub equal_ctor-returns-in_err-either-in-Some-Some-clause-adds :
    goal.equal_ctor-returns-in_err-either-in-Some-Some-clause-adds
equal_ctor-returns-in_err-either-in-Some-Some-clause-adds t c =
    let all = of_both c.args.table.now _ _ c.in-Some-Some.x.now c.in-Some-Some.y.now c.in-Some-Some.ensures
    c.in-Some-Some.ensures' in
    let lefts = c.as_slice.ensures in
    let rights = c.as_slice-in-Some-Some.ensures in
    let size : pairs_test c.args.table.now c.as_slice.result.now c.as_slice-in-Some-Some.result.now
    ≡ pairs_test c.args.table.now c.in-Some-Some.x.now.fields c.in-Some-Some.y.now.fields =
    λ i. pairs_test c.args.table.now (lefts i) (rights i) in
    AddsGates_more _ _ _ _ 1 _ (AddsGates_more _ _ _ 1 _ (1 + pairs_test c.args.table.now c.as_slice.result.now
    c.as_slice-in-Some-Some.result.now) c.in_ok-both-in-Some-Some.ensures.adds
    c.in_ok-same-in-Some-Some.ensures.adds (omega arith)) c.in_err-either-in-Some-Some.ensures.adds (omega arith)

pub equal_ctor-returns-in_ok-either-in-Some-Some-clause-step :
    goal.equal_ctor-returns-in_ok-either-in-Some-Some-clause-step
equal_ctor-returns-in_ok-either-in-Some-Some-clause-step t c =
    let either = c.in_ok-either-in-Some-Some.ensures in
    let same = c.in_ok-same-in-Some-Some.ensures in
    let both = c.in_ok-both-in-Some-Some.ensures in
    let fields = AreEqualFields_of _ _ _ _ _ _ _ c.in-Some-Some.x.now.lit c.in-Some-Some.y.now.lit _ _ _
    same.adds.grows either.adds both.stands same.test in
    record {
      of = either.stands.of;
      both = λ x y on_x on_y.
          let p : c.in-Some-Some.x.now ≡ x = some_same _ _ (c.in-Some-Some.ensures ∙ on_x) in
          let q : c.in-Some-Some.y.now ≡ y = some_same _ _ (c.in-Some-Some.ensures' ∙ on_y) in
          let lefts : c.as_slice.result.now ≡ x.fields =
          c.as_slice.ensures ∙ ap (λ (z : Alternative). z.fields) p in
          let rights : c.as_slice-in-Some-Some.result.now ≡ y.fields =
          c.as_slice-in-Some-Some.ensures ∙ ap (λ (z : Alternative). z.fields) q in (
            c.in_ok-same-in-Some-Some.same,
            subst (λ xs. AreEqualFields c.args.trees.now c.or.new.self x.lit y.lit xs y.fields
                c.in_ok-same-in-Some-Some.same) lefts
                (subst (λ ys. AreEqualFields c.args.trees.now c.or.new.self x.lit y.lit c.as_slice.result.now ys
                c.in_ok-same-in-Some-Some.same) rights
                (subst (λ (z : Alternative). AreEqualFields c.args.trees.now c.or.new.self z.lit y.lit
                c.as_slice.result.now c.as_slice-in-Some-Some.result.now c.in_ok-same-in-Some-Some.same) p
                (subst (λ (z : Alternative). AreEqualFields c.args.trees.now c.or.new.self c.in-Some-Some.x.now.lit
                z.lit
                c.as_slice.result.now c.as_slice-in-Some-Some.result.now c.in_ok-same-in-Some-Some.same) q fields))),
            either.stands.value,
          );
      left_absent = λ none. let e : Some c.in-Some-Some.x.now ≡ None = c.in-Some-Some.ensures ∙ none in cc;
      right_absent = λ none. let e : Some c.in-Some-Some.y.now ≡ None = c.in-Some-Some.ensures' ∙ none in cc;
    }
  where
    some_same : (x y : Alternative) → Some x ≡ Some y → x ≡ y
    some_same x y e = cc

-- ---- fields

pub equal_fields-loop-place-init : goal.equal_fields-loop-place-init
equal_fields-loop-place-init t c = record {
  adds = AddsGates_none _ _ c.requires.fits.circuit;
  test = AreEqualFields_none _ _ _ c.requires.both;
}

pub equal_fields-bounds-right-place : goal.equal_fields-bounds-right-place
equal_fields-bounds-right-place t c =
    right_within c.args.trees.now c.args.circuit.now c.args.left.now c.args.right.now c.loop-place.place
    c.requires.fields c.loop-place-test.true

pub equal_fields-has_none-requires : goal.equal_fields-has_none-requires
equal_fields-has_none-requires t c =
    let read = pair_read c.args.trees.now c.args.circuit.now c.args.left.now c.args.right.now c.loop-place.place _ _
    c.requires.fields c.loop-place-test.true c.index-left-place.is c.index-right-place.is in
    let pair = read.pair in
    in_arena c.args.trees.now c.args.circuit.now pair.sort _ pair.first

pub equal_fields-has_none-requires-in-loop-place : goal.equal_fields-has_none-requires-in-loop-place
equal_fields-has_none-requires-in-loop-place t c =
    let read = pair_read c.args.trees.now c.args.circuit.now c.args.left.now c.args.right.now c.loop-place.place _ _
    c.requires.fields c.loop-place-test.true c.index-left-place.is c.index-right-place.is in
    let pair = read.pair in
    in_arena c.args.trees.now c.args.circuit.now pair.sort _ pair.second

pub equal_fields-returns-then-has_none-clause-adds : goal.equal_fields-returns-then-has_none-clause-adds
equal_fields-returns-then-has_none-clause-adds t c =
    AddsGates_weaker _ _ _ _ c.loop-place.invariant.adds
    (tests_within c.args.table.now c.args.left.now c.args.right.now c.loop-place.place)

pub equal_fields-returns-then-has_none-2-clause-adds : goal.equal_fields-returns-then-has_none-2-clause-adds
equal_fields-returns-then-has_none-2-clause-adds t c =
    AddsGates_weaker _ _ _ _ c.loop-place.invariant.adds
    (tests_within c.args.table.now c.args.left.now c.args.right.now c.loop-place.place)

pub equal_fields-returns-then-has_none-clause-test : goal.equal_fields-returns-then-has_none-clause-test
equal_fields-returns-then-has_none-clause-test t c =
    let read = pair_read c.args.trees.now c.args.circuit.now c.args.left.now c.args.right.now c.loop-place.place _ _
    c.requires.fields c.loop-place-test.true c.index-left-place.is c.index-right-place.is in
    let pair = read.pair in
    never_equal_fields c.args.trees.now c.loop-place.circuit c.args.both c.args.both c.truth.result c.negated.result
    c.args.left.now c.args.right.now c.truth.ensures.stands c.negated.ensures
    (λ a vs ws one other.
    let v = value_there (symbol_value a (values_of a c.args.trees.now.nodes)) c.args.left.now vs c.loop-place.place
    _ one
    read.here in
    none_has c.args.table.now c.args.trees.now c.args.circuit.now c.requires.fits pair.sort _ pair.first
    (sym c.has_none.ensures ∙ c.if-has_none.true) a v.value v.is)

pub equal_fields-returns-then-has_none-2-clause-test : goal.equal_fields-returns-then-has_none-2-clause-test
equal_fields-returns-then-has_none-2-clause-test t c =
    let read = pair_read c.args.trees.now c.args.circuit.now c.args.left.now c.args.right.now c.loop-place.place _ _
    c.requires.fields c.loop-place-test.true c.index-left-place.is c.index-right-place.is in
    let pair = read.pair in
    never_equal_fields c.args.trees.now c.loop-place.circuit c.args.both c.args.both c.truth-then-has_none-2.result
    c.negated-then-has_none-2.result c.args.left.now c.args.right.now c.truth-then-has_none-2.ensures.stands
    c.negated-then-has_none-2.ensures
    (λ a vs ws one other.
    let v = value_there (symbol_value a (values_of a c.args.trees.now.nodes)) c.args.right.now ws c.loop-place.place _
    other read.there in
    none_has c.args.table.now c.args.trees.now c.args.circuit.now c.requires.fits pair.sort _ pair.second
    (sym c.has_none-in-loop-place.ensures ∙ c.if-has_none-2.true) a v.value v.is)

pub equal_fields-equal_symbol-requires : goal.equal_fields-equal_symbol-requires
equal_fields-equal_symbol-requires t c =
    let read = pair_read c.args.trees.now c.args.circuit.now c.args.left.now c.args.right.now c.loop-place.place _ _
    c.requires.fields c.loop-place-test.true c.index-left-place.is c.index-right-place.is in
    let pair = read.pair in
    let now = c.loop-place.invariant in
    let moves = Moves_gates bounded_sense c.args.table.now bounded_lawful c.args.trees.now c.args.circuit.now
    c.loop-place.circuit _ c.requires.fits now.adds in
    let own = pair_at c.args.trees.now c.loop-place.circuit _ _ _ _ _ (AreOfSorts_later _ _ _ _ _ _ moves _ _
    c.requires.fields) read.here read.there in
    let taken = tests_taken c.args.table.now c.args.left.now c.args.right.now c.loop-place.place _ _ read.here
    read.there in
    let within = tests_within c.args.table.now c.args.left.now c.args.right.now (c.loop-place.place + 1) in
    let some = test_some c.args.table.now c.args.trees.now c.args.circuit.now c.requires.fits pair.sort _ _ pair.first
    pair.second (sym c.has_none.ensures ∙ c.if-has_none.false)
    (sym c.has_none-in-loop-place.ensures ∙ c.if-has_none-2.false) in
    let low = rank_in c.args.left.now c.loop-place.place c.index-left-place.result read.here in
    let grown = (length-Grows _ _ _ now.adds.grows).1 in (
      omega arith,
      (
        moves.fits,
        (
          record { sort = own.sort; first = own.first; second = own.second },
          (let room = c.requires.room in omega arith),
        ),
      ),
    )

pub equal_fields-returns-in_err-same-clause-adds : goal.equal_fields-returns-in_err-same-clause-adds
equal_fields-returns-in_err-same-clause-adds t c =
    let read = pair_read c.args.trees.now c.args.circuit.now c.args.left.now c.args.right.now c.loop-place.place _ _
    c.requires.fields c.loop-place-test.true c.index-left-place.is c.index-right-place.is in
    let pair = read.pair in
    let taken = tests_taken c.args.table.now c.args.left.now c.args.right.now c.loop-place.place _ _ read.here
    read.there in
    let within = tests_within c.args.table.now c.args.left.now c.args.right.now (c.loop-place.place + 1) in
    let some = test_some c.args.table.now c.args.trees.now c.args.circuit.now c.requires.fits pair.sort _ _ pair.first
    pair.second (sym c.has_none.ensures ∙ c.if-has_none.false)
    (sym c.has_none-in-loop-place.ensures ∙ c.if-has_none-2.false) in
    AddsGates_more _ _ _ _ _ _ c.loop-place.invariant.adds c.in_err-same.ensures.adds (omega arith)

pub equal_fields-and-requires-clause-room : goal.equal_fields-and-requires-clause-room
equal_fields-and-requires-clause-room t c =
    let read = pair_read c.args.trees.now c.args.circuit.now c.args.left.now c.args.right.now c.loop-place.place _ _
    c.requires.fields c.loop-place-test.true c.index-left-place.is c.index-right-place.is in
    let pair = read.pair in
    let taken = tests_taken c.args.table.now c.args.left.now c.args.right.now c.loop-place.place _ _ read.here
    read.there in
    let within = tests_within c.args.table.now c.args.left.now c.args.right.now (c.loop-place.place + 1) in
    let some = test_some c.args.table.now c.args.trees.now c.args.circuit.now c.requires.fits pair.sort _ _ pair.first
    pair.second (sym c.has_none.ensures ∙ c.if-has_none.false)
    (sym c.has_none-in-loop-place.ensures ∙ c.if-has_none-2.false) in
    let one = (length-Grows _ _ _ c.loop-place.invariant.adds.grows).1 in
    let two = (length-Grows _ _ _ c.in_ok-same.ensures.adds.grows).1 in
    (let room = c.requires.room in omega arith)

pub equal_fields-and-requires-clause-left : goal.equal_fields-and-requires-clause-left
equal_fields-and-requires-clause-left t c =
    c.in_ok-same.ensures.adds.literals _ c.loop-place.invariant.test.of

pub equal_fields-returns-in_err-all-clause-adds : goal.equal_fields-returns-in_err-all-clause-adds
equal_fields-returns-in_err-all-clause-adds t c =
    let read = pair_read c.args.trees.now c.args.circuit.now c.args.left.now c.args.right.now c.loop-place.place _ _
    c.requires.fields c.loop-place-test.true c.index-left-place.is c.index-right-place.is in
    let pair = read.pair in
    let taken = tests_taken c.args.table.now c.args.left.now c.args.right.now c.loop-place.place _ _ read.here
    read.there in
    let within = tests_within c.args.table.now c.args.left.now c.args.right.now (c.loop-place.place + 1) in
    let some = test_some c.args.table.now c.args.trees.now c.args.circuit.now c.requires.fits pair.sort _ _ pair.first
    pair.second (sym c.has_none.ensures ∙ c.if-has_none.false)
    (sym c.has_none-in-loop-place.ensures ∙ c.if-has_none-2.false) in
    AddsGates_more _ _ _ _ 1 _ (AddsGates_more _ _ _ _ _ _ c.loop-place.invariant.adds c.in_ok-same.ensures.adds
    (le_refl _)) c.in_err-all.ensures.adds (omega arith)

pub equal_fields-loop-place-preserved : goal.equal_fields-loop-place-preserved
equal_fields-loop-place-preserved t c =
    let read = pair_read c.args.trees.now c.args.circuit.now c.args.left.now c.args.right.now c.loop-place.place _ _
    c.requires.fields c.loop-place-test.true c.index-left-place.is c.index-right-place.is in
    let pair = read.pair in
    let taken = tests_taken c.args.table.now c.args.left.now c.args.right.now c.loop-place.place _ _ read.here
    read.there in
    let within = tests_within c.args.table.now c.args.left.now c.args.right.now (c.loop-place.place + 1) in
    let some = test_some c.args.table.now c.args.trees.now c.args.circuit.now c.requires.fits pair.sort _ _ pair.first
    pair.second (sym c.has_none.ensures ∙ c.if-has_none.false)
    (sym c.has_none-in-loop-place.ensures ∙ c.if-has_none-2.false) in
    let now = c.loop-place.invariant in
    let xs = take_next c.args.left.now c.loop-place.place _ read.here in
    let ys = take_next c.args.right.now c.loop-place.place _ read.there in
    record {
      adds = AddsGates_more _ _ _ _ 1 _ (AddsGates_more _ _ _ _ _ _ now.adds c.in_ok-same.ensures.adds
          (le_refl _)) c.in_ok-all.ensures.adds (omega arith);
      test = subst (λ (zs : List (Symbol BoundedTree)). AreEqualFields c.args.trees.now c.and.new.self c.args.both
          c.args.both zs (take (c.loop-place.place + 1) c.args.right.now) c.in_ok-all.all) (sym xs)
          (subst (λ (zs : List (Symbol BoundedTree)). AreEqualFields c.args.trees.now c.and.new.self c.args.both
          c.args.both (take c.loop-place.place c.args.left.now ++ c.index-left-place.result ∷ []) zs
          c.in_ok-all.all) (sym ys)
          (AreEqualFields_push _ _ _ _ _ _ c.in_ok-same.ensures.adds c.in_ok-all.ensures.adds _ _ _ _ _ _ _ _ now.test
          c.in_ok-same.ensures.test c.in_ok-all.ensures.stands));
    }

pub equal_fields-returns-clause-adds : goal.equal_fields-returns-clause-adds
equal_fields-returns-clause-adds t c =
    AddsGates_weaker _ _ _ _ c.loop-place.invariant.adds
    (tests_within c.args.table.now c.args.left.now c.args.right.now c.loop-place.place)

pub equal_fields-returns-clause-test : goal.equal_fields-returns-clause-test
equal_fields-returns-clause-test t c =
    let xs = take_all c.loop-place.place c.args.left.now c.loop-place-test.false in
    let ys = whole_right c.args.trees.now c.args.circuit.now _ _ _ c.requires.fields c.loop-place-test.false in
    subst (λ (zs : List (Symbol BoundedTree)). AreEqualFields c.args.trees.now c.loop-place.circuit c.args.both
    c.args.both zs c.args.right.now c.loop-place.all) xs
    (subst (λ (zs : List (Symbol BoundedTree)). AreEqualFields c.args.trees.now c.loop-place.circuit c.args.both
    c.args.both (take c.loop-place.place c.args.left.now) zs c.loop-place.all) ys c.loop-place.invariant.test)

-- ---- a tree

pub equal_tree-returns-then-is_empty-clause-test : goal.equal_tree-returns-then-is_empty-clause-test
equal_tree-returns-then-is_empty-clause-test t c =
    let tree = c.requires.trees.left_kept in
    let empty = sym (c.alternatives-left_side.ensures.is tree.node tree.at)
    ∙ nil_from _ _ c.is_empty.ensures c.if-is_empty.true in
    never_equal c.args.trees.now c.args.circuit.now _ _ c.negated-any.result
    (IsOf_negated _ _ _ c.negated-any.ensures c.truth-2.ensures.stands.of)
    (λ a v w one other. no_value c.args.table.now c.args.trees.now c.args.circuit.now c.requires.fits c.args.left.now
    tree empty a v one)

pub equal_tree-returns-then-is_empty-2-clause-test : goal.equal_tree-returns-then-is_empty-2-clause-test
equal_tree-returns-then-is_empty-2-clause-test t c =
    let tree = c.requires.trees.right_kept in
    let empty = sym (c.alternatives-right_side.ensures.is tree.node tree.at)
    ∙ nil_from _ _ c.is_empty-2.ensures c.if-is_empty-2.true in
    never_equal c.args.trees.now c.args.circuit.now _ _ c.negated-any.result
    (IsOf_negated _ _ _ c.negated-any.ensures c.truth-2.ensures.stands.of)
    (λ a v w one other. no_value c.args.table.now c.args.trees.now c.args.circuit.now c.requires.fits c.args.right.now
    tree empty a w other)

pub equal_tree-datatype-requires : goal.equal_tree-datatype-requires
equal_tree-datatype-requires t c =
    let trees = c.requires.trees in
    let lefts = side_read c.args.table.now c.args.trees.now c.args.circuit.now c.args.left.now _ _ trees.left_kept
    c.alternatives-left_side.ensures c.is_empty.ensures c.if-is_empty.false in
    let rights = side_read c.args.table.now c.args.trees.now c.args.circuit.now c.args.right.now _ _ trees.right_kept
    c.alternatives-right_side.ensures c.is_empty-2.ensures c.if-is_empty-2.false in
    side_data c.args.table.now c.args.trees.now c.args.circuit.now c.requires.fits c.args.left.now _ lefts

pub equal_tree-loop-place-init : goal.equal_tree-loop-place-init
equal_tree-loop-place-init t c =
    let trees = c.requires.trees in
    let lefts = side_read c.args.table.now c.args.trees.now c.args.circuit.now c.args.left.now _ _ trees.left_kept
    c.alternatives-left_side.ensures c.is_empty.ensures c.if-is_empty.false in
    let rights = side_read c.args.table.now c.args.trees.now c.args.circuit.now c.args.right.now _ _ trees.right_kept
    c.alternatives-right_side.ensures c.is_empty-2.ensures c.if-is_empty-2.false in
    record {
      adds = AddsGates_none _ _ c.requires.fits.circuit;
      before = EqualBefore_none _ _ _ _ _ c.truth-2.result _
          (λ a v o. (own_block c.args.table.now c.args.trees.now c.args.circuit.now c.args.circuit.now c.requires.fits
          c.args.left.now c.args.right.now _ _ lefts rights c.datatype.result.now c.datatype.ensures a v o).0)
          c.truth-2.ensures.stands c.negated-any.ensures;
    }

pub equal_tree-equal_ctor-requires : goal.equal_tree-equal_ctor-requires
equal_tree-equal_ctor-requires t c =
    let trees = c.requires.trees in
    let lefts = side_read c.args.table.now c.args.trees.now c.args.circuit.now c.args.left.now _ _ trees.left_kept
    c.alternatives-left_side.ensures c.is_empty.ensures c.if-is_empty.false in
    let rights = side_read c.args.table.now c.args.trees.now c.args.circuit.now c.args.right.now _ _ trees.right_kept
    c.alternatives-right_side.ensures c.is_empty-2.ensures c.if-is_empty-2.false in
    let count = ap length c.ctors_of-place-end.ensures in
    let size = trees_test c.args.table.now c.args.trees.now c.args.circuit.now c.requires.fits c.args.left.now
    c.args.right.now _ _ lefts rights trees.same c.datatype.result.now c.datatype.ensures _ count in
    let next = ctors_test_next c.args.table.now c.alternatives-left_side.result.now c.alternatives-right_side.result.now
    c.datatype.result.now.first.0 c.loop-place.place in
    let grow = ctors_test_grow c.args.table.now c.alternatives-left_side.result.now
    c.alternatives-right_side.result.now c.datatype.result.now.first.0 (c.loop-place.place + 1)
    (length c.ctors_of-place-end.result.now) (let lt = c.loop-place-test.true in omega arith) in
    let now = c.loop-place.invariant in
    let moves = Moves_gates bounded_sense c.args.table.now bounded_lawful c.args.trees.now c.args.circuit.now
    c.loop-place.circuit _ c.requires.fits now.adds in
    let two = two_trees c.args.table.now c.args.trees.now c.args.circuit.now c.requires.fits c.args.left.now
    c.args.right.now _ _ lefts rights trees.same in
    let rank = side_rank c.args.table.now c.args.trees.now c.args.circuit.now c.requires.fits c.args.left.now _ lefts in
    let grown = (length-Grows _ _ _ now.adds.grows).1 in (
      omega arith,
      (
        moves.fits,
        (
          now.before.of,
          (
            record {
              of = two.of;
              left_height = two.left_height;
              right_height = two.right_height;
              left = alternatives_moved _ _ _ _ _ _ moves two.of (suc two.left_height) _ two.left;
              right = alternatives_moved _ _ _ _ _ _ moves two.of (suc two.right_height) _ two.right;
            },
            (let room = c.requires.room in omega arith),
          ),
        ),
      ),
    )

pub equal_tree-returns-in_err-any-clause-adds : goal.equal_tree-returns-in_err-any-clause-adds
equal_tree-returns-in_err-any-clause-adds t c =
    let trees = c.requires.trees in
    let lefts = side_read c.args.table.now c.args.trees.now c.args.circuit.now c.args.left.now _ _ trees.left_kept
    c.alternatives-left_side.ensures c.is_empty.ensures c.if-is_empty.false in
    let rights = side_read c.args.table.now c.args.trees.now c.args.circuit.now c.args.right.now _ _ trees.right_kept
    c.alternatives-right_side.ensures c.is_empty-2.ensures c.if-is_empty-2.false in
    let count = ap length c.ctors_of-place-end.ensures in
    let size = trees_test c.args.table.now c.args.trees.now c.args.circuit.now c.requires.fits c.args.left.now
    c.args.right.now _ _ lefts rights trees.same c.datatype.result.now c.datatype.ensures _ count in
    let next = ctors_test_next c.args.table.now c.alternatives-left_side.result.now c.alternatives-right_side.result.now
    c.datatype.result.now.first.0 c.loop-place.place in
    let grow = ctors_test_grow c.args.table.now c.alternatives-left_side.result.now
    c.alternatives-right_side.result.now c.datatype.result.now.first.0 (c.loop-place.place + 1)
    (length c.ctors_of-place-end.result.now) (let lt = c.loop-place-test.true in omega arith) in
    AddsGates_more _ _ _ _ _ _ c.loop-place.invariant.adds c.in_err-any.ensures.adds (omega arith)

pub equal_tree-loop-place-preserved : goal.equal_tree-loop-place-preserved
equal_tree-loop-place-preserved t c =
    let trees = c.requires.trees in
    let lefts = side_read c.args.table.now c.args.trees.now c.args.circuit.now c.args.left.now _ _ trees.left_kept
    c.alternatives-left_side.ensures c.is_empty.ensures c.if-is_empty.false in
    let rights = side_read c.args.table.now c.args.trees.now c.args.circuit.now c.args.right.now _ _ trees.right_kept
    c.alternatives-right_side.ensures c.is_empty-2.ensures c.if-is_empty-2.false in
    let now = c.loop-place.invariant in
    let next = ctors_test_next c.args.table.now c.alternatives-left_side.result.now c.alternatives-right_side.result.now
    c.datatype.result.now.first.0 c.loop-place.place in
    record {
      adds = AddsGates_more _ _ _ _ _ _ now.adds c.in_ok-any.ensures.adds (omega arith);
      before = EqualBefore_next c.args.table.now c.args.trees.now c.args.circuit.now c.loop-place.circuit
          c.equal_ctor.new.circuit _ _ c.requires.fits now.adds.grows c.in_ok-any.ensures.adds.grows c.args.left.now
          c.args.right.now _ _ lefts rights c.datatype.result.now.first.0 c.loop-place.place c.loop-place.any
          c.in_ok-any.any now.before c.in_ok-any.ensures.step;
    }

pub equal_tree-returns-clause-adds : goal.equal_tree-returns-clause-adds
equal_tree-returns-clause-adds t c =
    let trees = c.requires.trees in
    let lefts = side_read c.args.table.now c.args.trees.now c.args.circuit.now c.args.left.now _ _ trees.left_kept
    c.alternatives-left_side.ensures c.is_empty.ensures c.if-is_empty.false in
    let rights = side_read c.args.table.now c.args.trees.now c.args.circuit.now c.args.right.now _ _ trees.right_kept
    c.alternatives-right_side.ensures c.is_empty-2.ensures c.if-is_empty-2.false in
    let count = ap length c.ctors_of-place-end.ensures in
    let size = trees_test c.args.table.now c.args.trees.now c.args.circuit.now c.requires.fits c.args.left.now
    c.args.right.now _ _ lefts rights trees.same c.datatype.result.now c.datatype.ensures _ count in
    let grow = ctors_test_grow c.args.table.now c.alternatives-left_side.result.now
    c.alternatives-right_side.result.now c.datatype.result.now.first.0 c.loop-place.place
    (length c.ctors_of-place-end.result.now) c.loop-place.auto.place-end in
    AddsGates_weaker _ _ _ _ c.loop-place.invariant.adds (omega arith)

pub equal_tree-returns-clause-test : goal.equal_tree-returns-clause-test
equal_tree-returns-clause-test t c =
    let trees = c.requires.trees in
    let lefts = side_read c.args.table.now c.args.trees.now c.args.circuit.now c.args.left.now _ _ trees.left_kept
    c.alternatives-left_side.ensures c.is_empty.ensures c.if-is_empty.false in
    let rights = side_read c.args.table.now c.args.trees.now c.args.circuit.now c.args.right.now _ _ trees.right_kept
    c.alternatives-right_side.ensures c.is_empty-2.ensures c.if-is_empty-2.false in
    let count = ap length c.ctors_of-place-end.ensures in
    equal_all c.args.table.now c.args.trees.now c.args.circuit.now c.loop-place.circuit c.requires.fits c.args.left.now
    c.args.right.now _ _ lefts rights c.datatype.result.now c.datatype.ensures c.loop-place.place c.loop-place.any
    (let f = c.loop-place-test.false in let e = c.loop-place.auto.place-end in omega arith)
    c.loop-place.invariant.before
