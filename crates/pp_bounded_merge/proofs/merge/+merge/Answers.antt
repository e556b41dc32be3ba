use Rattle.std.proofs.Common.{◌≡◌, ◌∙◌, ◌+◌, ℕ, List, [], ◌∷◌, ◌++◌, length, take, Option, Some, None, refl, sym, ap}
use Rattle.std.proofs.Common.{arith, subst}
use Rattle.std.proofs.lemmas.List.{take_all}
use Rattle.pp_gate.proofs.Growing.{IsOf_more, length-Grows}
use Rattle.pp_prog.specs.declared.sort.Sort.{Sort}
use Rattle.pp_prog.specs.declared.types.TypeTable.{TypeTable}
use Rattle.pp_domain.specs.declared.symbol.Symbol.{Symbol}
use Rattle.pp_prog.specs.declared.sort.Sort.TheVariants as sort
use Rattle.pp_domain.specs.declared.symbol.Symbol.TheVariants as symbol
use Rattle.pp_domain.proofs.Composition.{Moves_none}
use Rattle.pp_bounded_trees.specs.declared.arena.Alternative.{Alternative}
use Rattle.pp_bounded_trees.specs.declared.arena.BoundedTree.{BoundedTree}
use Rattle.pp_bounded_merge.specs.Merge.{Adds, AreChosen, IsChosen, AreOfSorts, MergedBefore, joined_bits, pairs_bits}
use Rattle.pp_bounded_merge.proofs.Adding.{Adds_gates, Adds_more, Adds_none, Adds_same, Adds_weaker}
use Rattle.pp_bounded_trees.proofs.Candidates.{take_next}
use Rattle.pp_bounded_merge.proofs.Chosen.{AreChosen_none, AreChosen_push, pairs_taken, pairs_within, symbols_length}
use Rattle.pp_bounded_merge.proofs.Chosen.{symbols_taken}
use Rattle.pp_bounded_merge.proofs.MergedCtors.{MergedBefore_later, MergedBefore_none, MergedBefore_push}
use Rattle.pp_bounded_merge.proofs.MergedCtors.{MergedBefore_skip, found_ctor}
use Rattle.pp_bounded_merge.proofs.MergedSides.{both_sorts, merged_both, merged_left, merged_right}
use Rattle.pp_bounded_merge.proofs.MergedTree.{merged_node}
use Rattle.pp_bounded_trees.proofs.Lawful.{bounded_lawful}
use Rattle.pp_bounded_merge.proofs.Ranks.{rank_in, ranks, top_found}
use Rattle.pp_bounded_merge.proofs.Sides.{AreOfSorts_later, TwoSides_later, not_empty, pair_at, pair_read, joined_both}
use Rattle.pp_bounded_merge.proofs.Sides.{whole_right, whole_sorts, sides_bits, sides_high, sides_rank, sides_small}
use Rattle.pp_bounded_merge.proofs.Sides.{two_sides, chosen_left, chosen_right, merged_grow, merged_next, side_copied}
use Rattle.pp_bounded_merge.proofs.Sides.{side_data}
use Rattle.pp_bounded_merge.proofs.merge.+merge.Goals as goal
use Rattle.pp_bounded_merge.proofs.merge.+merge.Goals.{choose_alternatives-in-Some+in_ok-push-in-Some}
use Rattle.pp_bounded_merge.proofs.merge.+merge.Goals.{choose_alternatives-in-None}

-- ---- constructors

pub choose_alternatives-loop-place-init : goal.choose_alternatives-loop-place-init
choose_alternatives-loop-place-init t c = record {
  adds = Adds_none _ _ _ _ c.requires.fits;
  merged = λ s. MergedBefore_none _ _ _ _ _ _ _ _ _ _ c.new-all.ensures;
}

pub choose_alternatives-choose_ctor-requires : goal.choose_alternatives-choose_ctor-requires
choose_alternatives-choose_ctor-requires t c =
    let now = c.loop-place.invariant in
    let next = merged_next c.args.table.now c.args.left.now c.args.right.now c.args.first c.loop-place.place in
    let whole = merged_grow c.args.table.now c.args.left.now c.args.right.now c.args.first (c.loop-place.place + 1)
    c.args.count (let lt = c.loop-place-test.true in omega arith) in
    let grown = (length-Grows _ _ _ now.adds.moves.grows).1 in (
      omega arith,
      (
        now.adds.moves.fits,
        (
          IsOf_more _ _ _ _ now.adds.moves.grows c.requires.choice,
          (
            TwoSides_later _ _ _ _ _ _ now.adds.moves c.args.left.now c.args.right.now c.requires.sides,
            (let room = c.requires.room in omega arith),
          ),
        ),
      ),
    )

pub choose_alternatives-returns-in_err-merged-clause-adds : goal.choose_alternatives-returns-in_err-merged-clause-adds
choose_alternatives-returns-in_err-merged-clause-adds t c =
    let next = merged_next c.args.table.now c.args.left.now c.args.right.now c.args.first c.loop-place.place in
    let whole = merged_grow c.args.table.now c.args.left.now c.args.right.now c.args.first (c.loop-place.place + 1)
    c.args.count (let lt = c.loop-place-test.true in omega arith) in
    Adds_more _ _ _ _ _ _ _ _ _ _ c.loop-place.invariant.adds c.in_err-merged.ensures.adds (omega arith)

pub choose_alternatives-returns-in_err-push-in-Some-clause-adds :
    goal.choose_alternatives-returns-in_err-push-in-Some-clause-adds
choose_alternatives-returns-in_err-push-in-Some-clause-adds t c =
    let next = merged_next c.args.table.now c.args.left.now c.args.right.now c.args.first c.loop-place.place in
    let whole = merged_grow c.args.table.now c.args.left.now c.args.right.now c.args.first (c.loop-place.place + 1)
    c.args.count (let lt = c.loop-place-test.true in omega arith) in
    Adds_more _ _ _ _ _ _ _ _ _ _ c.loop-place.invariant.adds c.in_ok-merged.ensures.adds (omega arith)

pub choose_alternatives-loop-place-preserved : goal.choose_alternatives-loop-place-preserved
choose_alternatives-loop-place-preserved t c =
    let now = c.loop-place.invariant in
    let own = c.in_ok-merged.ensures in
    let next = merged_next c.args.table.now c.args.left.now c.args.right.now c.args.first c.loop-place.place in
    record {
      adds = Adds_more _ _ _ _ _ _ _ _ _ _ now.adds own.adds (omega arith);
      merged = λ s.
          let before = MergedBefore_later c.args.table.now c.loop-place.trees c.choose_ctor.new.trees
          c.loop-place.circuit c.choose_ctor.new.circuit _ own.adds.moves c.args.choice s.of s.h c.args.left.now
          c.args.right.now c.args.first c.loop-place.place c.loop-place.all (now.merged s) in
          let its = own.merged (TwoSides_later _ _ _ _ _ _ now.adds.moves c.args.left.now c.args.right.now s) in
          elim c.match-branch-2.branch [
            | choose_alternatives-in-Some+in_ok-push-in-Some w ↦
                subst (λ (zs : List Alternative). MergedBefore c.args.table.now c.choose_ctor.new.trees
                c.choose_ctor.new.circuit c.args.choice s.of s.h c.args.left.now c.args.right.now c.args.first
                (c.loop-place.place + 1) zs) (sym w.all-is)
                (MergedBefore_push _ _ _ _ _ _ _ _ _ c.loop-place.place _ c.in_ok-merged.field-0 c.loop-place.all refl
                before its _ w.in-Some.merged w.in-Some.is w.in_ok-push-in-Some.ensures.ok)
            | choose_alternatives-in-None w ↦
                subst (λ (zs : List Alternative). MergedBefore c.args.table.now c.choose_ctor.new.trees
                c.choose_ctor.new.circuit c.args.choice s.of s.h c.args.left.now c.args.right.now c.args.first
                (c.loop-place.place + 1) zs) (sym w.all-is)
                (MergedBefore_skip _ _ _ _ _ _ _ _ _ c.loop-place.place _ c.in_ok-merged.field-0 c.loop-place.all refl
                before its w.in-None.is)
          ];
    }

pub choose_alternatives-returns-clause-merged : goal.choose_alternatives-returns-clause-merged
choose_alternatives-returns-clause-merged t c = λ s.
    subst (λ n. MergedBefore c.args.table.now c.loop-place.trees c.loop-place.circuit c.args.choice s.of s.h
    c.args.left.now c.args.right.now c.args.first n c.loop-place.all)
    (let f = c.loop-place-test.false in let e = c.loop-place.auto.place-end in omega arith)
    (c.loop-place.invariant.merged s)

-- ---- one constructor

pub choose_ctor-and-requires-clause-right : goal.choose_ctor-and-requires-clause-right
choose_ctor-and-requires-clause-right t c =
    let s = c.requires.sides in
    (found_ctor c.args.table.now c.args.trees.now c.args.circuit.now s.of s.h c.args.right.now c.args.ctor.0
    c.in-None-Some.y.now s.right (sym c.in-None-Some.ensures')).lit_of

pub choose_ctor-and-requires-in-Some-None-clause-right : goal.choose_ctor-and-requires-in-Some-None-clause-right
choose_ctor-and-requires-in-Some-None-clause-right t c =
    let s = c.requires.sides in
    (found_ctor c.args.table.now c.args.trees.now c.args.circuit.now s.of s.h c.args.left.now c.args.ctor.0
    c.in-Some-None.x.now s.left (sym c.in-Some-None.ensures)).lit_of

pub choose_ctor-mux-requires-clause-left : goal.choose_ctor-mux-requires-clause-left
choose_ctor-mux-requires-clause-left t c =
    let s = c.requires.sides in
    (found_ctor c.args.table.now c.args.trees.now c.args.circuit.now s.of s.h c.args.left.now c.args.ctor.0
    c.in-Some-Some.x.now s.left (sym c.in-Some-Some.ensures)).lit_of

pub choose_ctor-mux-requires-clause-right : goal.choose_ctor-mux-requires-clause-right
choose_ctor-mux-requires-clause-right t c =
    let s = c.requires.sides in
    (found_ctor c.args.table.now c.args.trees.now c.args.circuit.now s.of s.h c.args.right.now c.args.ctor.0
    c.in-Some-Some.y.now s.right (sym c.in-Some-Some.ensures')).lit_of

-- the gates
one_right : (types : TypeTable) (o p : Option Alternative) (y : Alternative) → None ≡ o → Some y ≡ p
    → joined_bits types o p ≡ 1
one_right types o p y e f = λ i. joined_bits types (sym e i) (sym f i)

one_left : (types : TypeTable) (o p : Option Alternative) (x : Alternative) → Some x ≡ o → None ≡ p
    → joined_bits types o p ≡ 1
one_left types o p x e f = λ i. joined_bits types (sym e i) (sym f i)

of_both : (types : TypeTable) (o p : Option Alternative) (x y : Alternative) → Some x ≡ o → Some y ≡ p
    → joined_bits types o p ≡ 1 + pairs_bits types x.fields y.fields
of_both types o p x y e f = λ i. joined_bits types (sym e i) (sym f i)

pub choose_ctor-returns-in_err-lit-in-None-Some-clause-adds :
    goal.choose_ctor-returns-in_err-lit-in-None-Some-clause-adds
choose_ctor-returns-in_err-lit-in-None-Some-clause-adds t c =
    let one = one_right c.args.table.now _ _ c.in-None-Some.y.now c.in-None-Some.ensures c.in-None-Some.ensures' in
    Adds_weaker _ _ _ _ _ 1 _ (Adds_gates _ _ _ _ 1 c.requires.fits c.in_err-lit-in-None-Some.ensures.adds)
    (omega arith)

pub choose_ctor-returns-in_err-fields-in-None-Some-clause-adds :
    goal.choose_ctor-returns-in_err-fields-in-None-Some-clause-adds
choose_ctor-returns-in_err-fields-in-None-Some-clause-adds t c =
    let one = one_right c.args.table.now _ _ c.in-None-Some.y.now c.in-None-Some.ensures c.in-None-Some.ensures' in
    Adds_weaker _ _ _ _ _ 1 _ (Adds_gates _ _ _ _ 1 c.requires.fits c.in_ok-lit-in-None-Some.ensures.adds)
    (omega arith)

pub choose_ctor-returns-in_ok-fields-in-None-Some-clause-adds :
    goal.choose_ctor-returns-in_ok-fields-in-None-Some-clause-adds
choose_ctor-returns-in_ok-fields-in-None-Some-clause-adds t c =
    let one = one_right c.args.table.now _ _ c.in-None-Some.y.now c.in-None-Some.ensures c.in-None-Some.ensures' in
    Adds_weaker _ _ _ _ _ 1 _ (Adds_gates _ _ _ _ 1 c.requires.fits c.in_ok-lit-in-None-Some.ensures.adds)
    (omega arith)

pub choose_ctor-returns-in_err-lit-in-Some-None-clause-adds :
    goal.choose_ctor-returns-in_err-lit-in-Some-None-clause-adds
choose_ctor-returns-in_err-lit-in-Some-None-clause-adds t c =
    let one = one_left c.args.table.now _ _ c.in-Some-None.x.now c.in-Some-None.ensures c.in-Some-None.ensures' in
    Adds_weaker _ _ _ _ _ 1 _ (Adds_gates _ _ _ _ 1 c.requires.fits c.in_err-lit-in-Some-None.ensures.adds)
    (omega arith)

pub choose_ctor-returns-in_err-fields-in-Some-None-clause-adds :
    goal.choose_ctor-returns-in_err-fields-in-Some-None-clause-adds
choose_ctor-returns-in_err-fields-in-Some-None-clause-adds t c =
    let one = one_left c.args.table.now _ _ c.in-Some-None.x.now c.in-Some-None.ensures c.in-Some-None.ensures' in
    Adds_weaker _ _ _ _ _ 1 _ (Adds_gates _ _ _ _ 1 c.requires.fits c.in_ok-lit-in-Some-None.ensures.adds)
    (omega arith)

pub choose_ctor-returns-in_ok-fields-in-Some-None-clause-adds :
    goal.choose_ctor-returns-in_ok-fields-in-Some-None-clause-adds
choose_ctor-returns-in_ok-fields-in-Some-None-clause-adds t c =
    let one = one_left c.args.table.now _ _ c.in-Some-None.x.now c.in-Some-None.ensures c.in-Some-None.ensures' in
    Adds_weaker _ _ _ _ _ 1 _ (Adds_gates _ _ _ _ 1 c.requires.fits c.in_ok-lit-in-Some-None.ensures.adds)
    (omega arith)

pub choose_ctor-returns-in_err-lit-in-Some-Some-clause-adds :
    goal.choose_ctor-returns-in_err-lit-in-Some-Some-clause-adds
choose_ctor-returns-in_err-lit-in-Some-Some-clause-adds t c =
    let all = of_both c.args.table.now _ _ c.in-Some-Some.x.now c.in-Some-Some.y.now c.in-Some-Some.ensures
    c.in-Some-Some.ensures' in
    Adds_weaker _ _ _ _ _ 1 _ (Adds_gates _ _ _ _ 1 c.requires.fits c.in_err-lit-in-Some-Some.ensures.adds)
    (omega arith)

pub choose_ctor-choose_fields-requires : goal.choose_ctor-choose_fields-requires
choose_ctor-choose_fields-requires t c =
    let s = c.requires.sides in
    let lit = c.in_ok-lit-in-Some-Some.ensures.adds in
    let gate = Adds_gates c.args.table.now c.args.trees.now c.args.circuit.now c.mux.new.self 1 c.requires.fits lit in
    let all = joined_both c.args.table.now _ _ c.in-Some-Some.x.now c.in-Some-Some.y.now _ _ c.in-Some-Some.ensures
    c.in-Some-Some.ensures' c.as_slice-in-Some-Some.ensures c.as_slice-in-Some-Some-2.ensures in
    let top = top_found c.args.left.now c.args.ctor.0 c.in-Some-Some.x.now (sym c.in-Some-Some.ensures) in
    let low = ap ranks c.as_slice-in-Some-Some.ensures in
    let grown = (length-Grows _ _ _ lit.grows).1 in (
      omega arith,
      (
        gate.moves.fits,
        (
          IsOf_more _ _ _ _ lit.grows c.requires.choice,
          (
            subst (λ (xs : List (Symbol BoundedTree)). AreOfSorts c.args.trees.now c.mux.new.self xs
                c.as_slice-in-Some-Some-2.result.now) (sym c.as_slice-in-Some-Some.ensures)
                (subst (λ (ys : List (Symbol BoundedTree)). AreOfSorts c.args.trees.now c.mux.new.self
                c.in-Some-Some.x.now.fields ys) (sym c.as_slice-in-Some-Some-2.ensures)
                (both_sorts c.args.table.now c.args.trees.now c.args.circuit.now s.of s.h c.args.left.now
                c.args.right.now s.left
                s.right c.args.trees.now c.mux.new.self c.mux.new.self 1 0 gate.moves (Moves_none _ _ bounded_lawful _ _
                gate.moves.fits) c.args.choice c.args.ctor c.in-Some-Some.x.now c.in-Some-Some.y.now
                c.in-Some-Some.ensures
                c.in-Some-Some.ensures')),
            (let room = c.requires.room in omega arith),
          ),
        ),
      ),
    )

pub choose_ctor-returns-in_err-fields-in-Some-Some-clause-adds :
    goal.choose_ctor-returns-in_err-fields-in-Some-Some-clause-adds
choose_ctor-returns-in_err-fields-in-Some-Some-clause-adds t c =
    let lit = c.in_ok-lit-in-Some-Some.ensures.adds in
    let gate = Adds_gates c.args.table.now c.args.trees.now c.args.circuit.now c.mux.new.self 1 c.requires.fits lit in
    let all = joined_both c.args.table.now _ _ c.in-Some-Some.x.now c.in-Some-Some.y.now _ _ c.in-Some-Some.ensures
    c.in-Some-Some.ensures' c.as_slice-in-Some-Some.ensures c.as_slice-in-Some-Some-2.ensures in
    Adds_more _ _ _ _ _ _ _ _ _ _ gate c.in_err-fields-in-Some-Some.ensures.adds (omega arith)

pub choose_ctor-returns-in_ok-fields-in-Some-Some-clause-adds :
    goal.choose_ctor-returns-in_ok-fields-in-Some-Some-clause-adds
choose_ctor-returns-in_ok-fields-in-Some-Some-clause-adds t c =
    let lit = c.in_ok-lit-in-Some-Some.ensures.adds in
    let gate = Adds_gates c.args.table.now c.args.trees.now c.args.circuit.now c.mux.new.self 1 c.requires.fits lit in
    let all = joined_both c.args.table.now _ _ c.in-Some-Some.x.now c.in-Some-Some.y.now _ _ c.in-Some-Some.ensures
    c.in-Some-Some.ensures' c.as_slice-in-Some-Some.ensures c.as_slice-in-Some-Some-2.ensures in
    Adds_more _ _ _ _ _ _ _ _ _ _ gate c.in_ok-fields-in-Some-Some.ensures.adds (omega arith)

pub choose_ctor-returns-in-None-None-clause-adds : goal.choose_ctor-returns-in-None-None-clause-adds
choose_ctor-returns-in-None-None-clause-adds t c = Adds_none _ _ _ _ c.requires.fits

pub choose_ctor-returns-in_ok-fields-in-None-Some-clause-merged :
    goal.choose_ctor-returns-in_ok-fields-in-None-Some-clause-merged
choose_ctor-returns-in_ok-fields-in-None-Some-clause-merged t c = λ s.
    let lit = c.in_ok-lit-in-None-Some.ensures in
    let gate = Adds_gates c.args.table.now c.args.trees.now c.args.circuit.now c.and.new.self 1 c.requires.fits
    lit.adds in
    merged_right c.args.table.now c.args.trees.now c.args.circuit.now s.of s.h c.args.left.now c.args.right.now s.left
    s.right c.and.new.self 1 gate.moves c.args.choice c.args.ctor _ refl c.in-None-Some.y.now c.negated.result
    c.in-None-Some.ensures c.in-None-Some.ensures' c.negated.ensures lit.stands
    (c.in_ok-fields-in-None-Some.ensures ∙ c.as_slice.ensures)

pub choose_ctor-returns-in_ok-fields-in-Some-None-clause-merged :
    goal.choose_ctor-returns-in_ok-fields-in-Some-None-clause-merged
choose_ctor-returns-in_ok-fields-in-Some-None-clause-merged t c = λ s.
    let lit = c.in_ok-lit-in-Some-None.ensures in
    let gate = Adds_gates c.args.table.now c.args.trees.now c.args.circuit.now c.and-in-Some-None.new.self 1
    c.requires.fits lit.adds in
    merged_left c.args.table.now c.args.trees.now c.args.circuit.now s.of s.h c.args.left.now c.args.right.now s.left
    s.right c.and-in-Some-None.new.self 1 gate.moves c.args.choice c.args.ctor _ refl c.in-Some-None.x.now
    c.in-Some-None.ensures c.in-Some-None.ensures' lit.stands
    (c.in_ok-fields-in-Some-None.ensures ∙ c.as_slice-in-Some-None.ensures)

pub choose_ctor-returns-in_ok-fields-in-Some-Some-clause-merged :
    goal.choose_ctor-returns-in_ok-fields-in-Some-Some-clause-merged
choose_ctor-returns-in_ok-fields-in-Some-Some-clause-merged t c = λ s.
    let lit = c.in_ok-lit-in-Some-Some.ensures in
    let fields = c.in_ok-fields-in-Some-Some.ensures in
    let gate = Adds_gates c.args.table.now c.args.trees.now c.args.circuit.now c.mux.new.self 1 c.requires.fits
    lit.adds in
    merged_both c.args.table.now c.args.trees.now c.args.circuit.now s.of s.h c.args.left.now c.args.right.now s.left
    s.right c.choose_fields.new.trees c.mux.new.self c.choose_fields.new.circuit 1 _ gate.moves fields.adds.moves
    c.args.choice c.args.ctor c.in-Some-Some.x.now c.in-Some-Some.y.now _ c.in-Some-Some.ensures
    c.in-Some-Some.ensures' refl lit.stands
    (subst (λ (xs : List (Symbol BoundedTree)). (r : AreOfSorts c.args.trees.now c.mux.new.self xs
    c.in-Some-Some.y.now.fields) → AreChosen c.choose_fields.new.trees c.choose_fields.new.circuit c.args.choice
    r.sorts xs c.in-Some-Some.y.now.fields c.in_ok-fields-in-Some-Some.fields) c.as_slice-in-Some-Some.ensures
    (subst (λ (ys : List (Symbol BoundedTree)). (r : AreOfSorts c.args.trees.now c.mux.new.self
    c.as_slice-in-Some-Some.result.now ys) → AreChosen c.choose_fields.new.trees c.choose_fields.new.circuit
    c.args.choice r.sorts c.as_slice-in-Some-Some.result.now ys c.in_ok-fields-in-Some-Some.fields)
    c.as_slice-in-Some-Some-2.ensures fields.chosen))

-- ---- fields

pub choose_fields-loop-place-init : goal.choose_fields-loop-place-init
choose_fields-loop-place-init t c = record {
  adds = Adds_none _ _ _ _ c.requires.fits;
  chosen = λ s. AreChosen_none _ _ _ _ c.new-fields.ensures;
}

pub choose_fields-bounds-right-place : goal.choose_fields-bounds-right-place
choose_fields-bounds-right-place t c =
    let s = c.requires.fields in
    let l = symbols_length c.args.trees.now c.args.circuit.now s.sorts c.args.left.now s.left in
    let r = symbols_length c.args.trees.now c.args.circuit.now s.sorts c.args.right.now s.right in
    let lt = c.loop-place-test.true in omega arith

pub choose_fields-choose_symbol-requires : goal.choose_fields-choose_symbol-requires
choose_fields-choose_symbol-requires t c =
    let now = c.loop-place.invariant in
    let s = AreOfSorts_later _ _ _ _ _ _ now.adds.moves c.args.left.now c.args.right.now c.requires.fields in
    let read = pair_read c.args.trees.now c.args.circuit.now c.args.left.now c.args.right.now c.loop-place.place _ _
    c.requires.fields c.loop-place-test.true c.index-left-place.is c.index-right-place.is in
    let p = pair_at _ _ _ _ _ _ _ s read.here read.there in
    let taken = pairs_taken c.args.table.now c.args.left.now c.args.right.now c.loop-place.place _ _ read.here
    read.there in
    let within = pairs_within c.args.table.now c.args.left.now c.args.right.now (c.loop-place.place + 1) in
    let low = rank_in c.args.left.now c.loop-place.place c.index-left-place.result read.here in
    let grown = (length-Grows _ _ _ now.adds.moves.grows).1 in (
      omega arith,
      (
        now.adds.moves.fits,
        (
          IsOf_more _ _ _ _ now.adds.moves.grows c.requires.choice,
          (record { sort = p.sort; first = p.first; second = p.second }, (let room = c.requires.room in omega arith)),
        ),
      ),
    )

pub choose_fields-returns-in_err-field-clause-adds : goal.choose_fields-returns-in_err-field-clause-adds
choose_fields-returns-in_err-field-clause-adds t c =
    let read = pair_read c.args.trees.now c.args.circuit.now c.args.left.now c.args.right.now c.loop-place.place _ _
    c.requires.fields c.loop-place-test.true c.index-left-place.is c.index-right-place.is in
    let taken = pairs_taken c.args.table.now c.args.left.now c.args.right.now c.loop-place.place _ _ read.here
    read.there in
    let within = pairs_within c.args.table.now c.args.left.now c.args.right.now (c.loop-place.place + 1) in
    Adds_more _ _ _ _ _ _ _ _ _ _ c.loop-place.invariant.adds c.in_err-field.ensures.adds (omega arith)

pub choose_fields-returns-in_err-push-clause-adds : goal.choose_fields-returns-in_err-push-clause-adds
choose_fields-returns-in_err-push-clause-adds t c =
    let read = pair_read c.args.trees.now c.args.circuit.now c.args.left.now c.args.right.now c.loop-place.place _ _
    c.requires.fields c.loop-place-test.true c.index-left-place.is c.index-right-place.is in
    let taken = pairs_taken c.args.table.now c.args.left.now c.args.right.now c.loop-place.place _ _ read.here
    read.there in
    let within = pairs_within c.args.table.now c.args.left.now c.args.right.now (c.loop-place.place + 1) in
    Adds_more _ _ _ _ _ _ _ _ _ _ c.loop-place.invariant.adds c.in_ok-field.ensures.adds (omega arith)

pub choose_fields-loop-place-preserved : goal.choose_fields-loop-place-preserved
choose_fields-loop-place-preserved t c =
    let now = c.loop-place.invariant in
    let field = c.in_ok-field.ensures in
    let read = pair_read c.args.trees.now c.args.circuit.now c.args.left.now c.args.right.now c.loop-place.place _ _
    c.requires.fields c.loop-place-test.true c.index-left-place.is c.index-right-place.is in
    let taken = pairs_taken c.args.table.now c.args.left.now c.args.right.now c.loop-place.place _ _ read.here
    read.there in
    record {
      adds = Adds_more _ _ _ _ _ _ _ _ _ _ now.adds field.adds (omega arith);
      chosen = λ s.
          let r = AreOfSorts_later _ _ _ _ _ _ now.adds.moves c.args.left.now c.args.right.now s in
          let p = pair_at _ _ _ _ _ _ _ r read.here read.there in
          let pushed = AreChosen_push _ _ _ _ _ _ field.adds.moves _ _ _ _ _ p.sort _ _ _
          (symbols_taken c.loop-place.trees c.loop-place.circuit c.loop-place.place _ _ r.left)
          (symbols_taken c.loop-place.trees c.loop-place.circuit c.loop-place.place _ _ r.right)
          (now.chosen s) (field.chosen p.sort p.first) _ c.in_ok-push.ensures.ok in
          let ss = take_next s.sorts c.loop-place.place p.sort p.at in
          let xs = take_next c.args.left.now c.loop-place.place _ read.here in
          let ys = take_next c.args.right.now c.loop-place.place _ read.there in
          subst (λ (zs : List (Symbol BoundedTree)). AreChosen c.choose_symbol.new.trees c.choose_symbol.new.circuit
          c.args.choice (take (c.loop-place.place + 1) s.sorts) zs (take (c.loop-place.place + 1) c.args.right.now)
          c.push.new.self) (sym xs)
          (subst (λ (zs : List (Symbol BoundedTree)). AreChosen c.choose_symbol.new.trees c.choose_symbol.new.circuit
          c.args.choice (take (c.loop-place.place + 1) s.sorts) (take c.loop-place.place c.args.left.now
          ++ c.index-left-place.result ∷ []) zs c.push.new.self) (sym ys)
          (subst (λ (rs : List Sort). AreChosen c.choose_symbol.new.trees c.choose_symbol.new.circuit
          c.args.choice rs (take c.loop-place.place c.args.left.now ++ c.index-left-place.result ∷ [])
          (take c.loop-place.place c.args.right.now ++ c.index-right-place.result ∷ []) c.push.new.self) (sym ss)
          pushed));
    }

pub choose_fields-returns-clause-adds : goal.choose_fields-returns-clause-adds
choose_fields-returns-clause-adds t c =
    let xs = take_all c.loop-place.place c.args.left.now c.loop-place-test.false in
    let ys = whole_right _ _ _ _ _ c.requires.fields c.loop-place-test.false in
    let size : pairs_bits c.args.table.now (take c.loop-place.place c.args.left.now)
    (take c.loop-place.place c.args.right.now)
    ≡ pairs_bits c.args.table.now c.args.left.now c.args.right.now = λ i. pairs_bits c.args.table.now (xs i) (ys i) in
    Adds_weaker _ _ _ _ _ _ _ c.loop-place.invariant.adds (omega arith)

pub choose_fields-returns-clause-chosen : goal.choose_fields-returns-clause-chosen
choose_fields-returns-clause-chosen t c = λ s.
    let xs = take_all c.loop-place.place c.args.left.now c.loop-place-test.false in
    let ys = whole_right _ _ _ _ _ s c.loop-place-test.false in
    let ss = whole_sorts _ _ _ _ _ s c.loop-place-test.false in
    subst (λ (zs : List (Symbol BoundedTree)). AreChosen c.loop-place.trees c.loop-place.circuit c.args.choice
    s.sorts zs
    c.args.right.now c.loop-place.fields) xs
    (subst (λ (zs : List (Symbol BoundedTree)). AreChosen c.loop-place.trees c.loop-place.circuit c.args.choice s.sorts
    (take c.loop-place.place c.args.left.now) zs c.loop-place.fields) ys
    (subst (λ (rs : List Sort). AreChosen c.loop-place.trees c.loop-place.circuit c.args.choice rs
    (take c.loop-place.place c.args.left.now) (take c.loop-place.place c.args.right.now) c.loop-place.fields) ss
    (c.loop-place.invariant.chosen s)))

-- ---- one symbol

pub choose_symbol-returns-in_err-word-in-Word-Word-clause-adds :
    goal.choose_symbol-returns-in_err-word-in-Word-Word-clause-adds
choose_symbol-returns-in_err-word-in-Word-Word-clause-adds t c = rw (c.in-Word-Word.is-0, c.in-Word-Word.is-1)
    (Adds_gates _ _ _ _ 32 c.requires.fits c.in_err-word-in-Word-Word.ensures.adds)

pub choose_symbol-returns-in_err-bit-in-Bit-Bit-clause-adds :
    goal.choose_symbol-returns-in_err-bit-in-Bit-Bit-clause-adds
choose_symbol-returns-in_err-bit-in-Bit-Bit-clause-adds t c = rw (c.in-Bit-Bit.is-0, c.in-Bit-Bit.is-1)
    (Adds_gates _ _ _ _ 1 c.requires.fits c.in_err-bit-in-Bit-Bit.ensures.adds)

pub choose_symbol-returns-in_ok-word-in-Word-Word-clause-adds :
    goal.choose_symbol-returns-in_ok-word-in-Word-Word-clause-adds
choose_symbol-returns-in_ok-word-in-Word-Word-clause-adds t c = rw (c.in-Word-Word.is-0, c.in-Word-Word.is-1)
    (Adds_gates _ _ _ _ 32 c.requires.fits c.in_ok-word-in-Word-Word.ensures.adds)

pub choose_symbol-returns-in_ok-bit-in-Bit-Bit-clause-adds : goal.choose_symbol-returns-in_ok-bit-in-Bit-Bit-clause-adds
choose_symbol-returns-in_ok-bit-in-Bit-Bit-clause-adds t c = rw (c.in-Bit-Bit.is-0, c.in-Bit-Bit.is-1)
    (Adds_gates _ _ _ _ 1 c.requires.fits c.in_ok-bit-in-Bit-Bit.ensures.adds)

-- ---- a tree

pub choose_tree-returns-then-left-right-clause-adds : goal.choose_tree-returns-then-left-right-clause-adds
choose_tree-returns-then-left-right-clause-adds t c = Adds_none _ _ _ _ c.requires.fits

pub choose_tree-returns-in_err-left_side-clause-adds : goal.choose_tree-returns-in_err-left_side-clause-adds
choose_tree-returns-in_err-left_side-clause-adds t c = Adds_none _ _ _ _ c.requires.fits

pub choose_tree-returns-in_err-right_side-clause-adds : goal.choose_tree-returns-in_err-right_side-clause-adds
choose_tree-returns-in_err-right_side-clause-adds t c = Adds_none _ _ _ _ c.requires.fits

pub choose_tree-returns-then-is_empty-clause-adds : goal.choose_tree-returns-then-is_empty-clause-adds
choose_tree-returns-then-is_empty-clause-adds t c = Adds_none _ _ _ _ c.requires.fits

pub choose_tree-returns-then-is_empty-2-clause-adds : goal.choose_tree-returns-then-is_empty-2-clause-adds
choose_tree-returns-then-is_empty-2-clause-adds t c = Adds_none _ _ _ _ c.requires.fits

pub choose_tree-returns-then-is_empty-clause-chosen : goal.choose_tree-returns-then-is_empty-clause-chosen
choose_tree-returns-then-is_empty-clause-chosen t c =
    let trees = c.requires.trees in
    chosen_left c.args.table.now c.args.trees.now c.args.circuit.now c.args.choice c.args.left.now c.args.right.now _
    c.requires.fits trees.left_kept trees.right_kept trees.same refl c.max-height.ensures c.in_ok-right_side.right_side
    (c.in_ok-right_side.ensures ∙ c.alternatives-2.ensures.is trees.right_kept.node trees.right_kept.at)
    (c.is_empty.ensures.0 c.if-is_empty.true) refl

pub choose_tree-returns-then-is_empty-2-clause-chosen : goal.choose_tree-returns-then-is_empty-2-clause-chosen
choose_tree-returns-then-is_empty-2-clause-chosen t c =
    let trees = c.requires.trees in
    chosen_right c.args.table.now c.args.trees.now c.args.circuit.now c.args.choice c.args.left.now c.args.right.now _
    c.requires.fits trees.left_kept trees.right_kept trees.same refl c.max-height.ensures c.in_ok-left_side.left_side
    (c.in_ok-left_side.ensures ∙ c.alternatives.ensures.is trees.left_kept.node trees.left_kept.at)
    (c.is_empty-2.ensures.0 c.if-is_empty-2.true) refl

pub choose_tree-datatype-requires : goal.choose_tree-datatype-requires
choose_tree-datatype-requires t c =
    let trees = c.requires.trees in
    side_data c.args.table.now c.args.trees.now c.args.circuit.now c.requires.fits c.args.left.now
    c.in_ok-left_side.left_side (record {
      tree = trees.left_kept;
      is = c.in_ok-left_side.ensures ∙ c.alternatives.ensures.is trees.left_kept.node trees.left_kept.at;
      some = not_empty _ _ c.is_empty-2.ensures c.if-is_empty-2.false;
    })

pub choose_tree-choose_alternatives-requires : goal.choose_tree-choose_alternatives-requires
choose_tree-choose_alternatives-requires t c =
    let trees = c.requires.trees in
    let lefts = side_copied c.args.table.now c.args.trees.now c.args.circuit.now c.args.left.now _ _ _ _
    trees.left_kept c.alternatives.ensures c.in_ok-left_side.ensures c.as_slice.ensures c.is_empty-2.ensures
    c.if-is_empty-2.false in
    let rights = side_copied c.args.table.now c.args.trees.now c.args.circuit.now c.args.right.now _ _ _ _
    trees.right_kept c.alternatives-2.ensures c.in_ok-right_side.ensures c.as_slice-2.ensures c.is_empty.ensures
    c.if-is_empty.false in
    let rank = sides_rank c.args.table.now c.args.trees.now c.args.circuit.now c.requires.fits c.args.left.now
    c.args.right.now _ _ lefts rights trees.same in
    let count = ap length c.ctors_of-count.ensures in
    let size = sides_bits c.args.table.now c.args.trees.now c.args.circuit.now c.requires.fits c.args.left.now
    c.args.right.now _ _ lefts rights trees.same c.datatype.result.now c.datatype.ensures _ count in (
      omega arith,
      (
        c.requires.fits,
        (
          c.requires.choice,
          (
            two_sides c.args.table.now c.args.trees.now c.args.circuit.now
                c.requires.fits c.args.left.now c.args.right.now _ _ lefts rights trees.same,
            (
              sides_small c.args.table.now c.args.trees.now c.args.circuit.now c.requires.fits c.args.left.now
                  c.args.right.now _ _ lefts rights trees.same c.datatype.result.now c.datatype.ensures _ count,
              (let room = c.requires.room in omega arith),
            ),
          ),
        ),
      ),
    )

pub choose_tree-returns-in_err-alternatives-clause-adds : goal.choose_tree-returns-in_err-alternatives-clause-adds
choose_tree-returns-in_err-alternatives-clause-adds t c =
    let trees = c.requires.trees in
    let lefts = side_copied c.args.table.now c.args.trees.now c.args.circuit.now c.args.left.now _ _ _ _
    trees.left_kept c.alternatives.ensures c.in_ok-left_side.ensures c.as_slice.ensures c.is_empty-2.ensures
    c.if-is_empty-2.false in
    let rights = side_copied c.args.table.now c.args.trees.now c.args.circuit.now c.args.right.now _ _ _ _
    trees.right_kept c.alternatives-2.ensures c.in_ok-right_side.ensures c.as_slice-2.ensures c.is_empty.ensures
    c.if-is_empty.false in
    let count = ap length c.ctors_of-count.ensures in
    let size = sides_bits c.args.table.now c.args.trees.now c.args.circuit.now c.requires.fits c.args.left.now
    c.args.right.now _ _ lefts rights trees.same c.datatype.result.now c.datatype.ensures _ count in
    Adds_weaker _ _ _ _ _ _ _ c.in_err-alternatives.ensures.adds (let m = c.max-height.ensures in omega arith)

pub choose_tree-returns-in_err-tree-clause-adds : goal.choose_tree-returns-in_err-tree-clause-adds
choose_tree-returns-in_err-tree-clause-adds t c =
    let trees = c.requires.trees in
    let lefts = side_copied c.args.table.now c.args.trees.now c.args.circuit.now c.args.left.now _ _ _ _
    trees.left_kept c.alternatives.ensures c.in_ok-left_side.ensures c.as_slice.ensures c.is_empty-2.ensures
    c.if-is_empty-2.false in
    let rights = side_copied c.args.table.now c.args.trees.now c.args.circuit.now c.args.right.now _ _ _ _
    trees.right_kept c.alternatives-2.ensures c.in_ok-right_side.ensures c.as_slice-2.ensures c.is_empty.ensures
    c.if-is_empty.false in
    let count = ap length c.ctors_of-count.ensures in
    let size = sides_bits c.args.table.now c.args.trees.now c.args.circuit.now c.requires.fits c.args.left.now
    c.args.right.now _ _ lefts rights trees.same c.datatype.result.now c.datatype.ensures _ count in
    let all = c.in_ok-alternatives.ensures.adds in
    Adds_more _ _ _ _ _ _ _ _ 0 _ all (Adds_same _ _ _ _ 0 all.moves.fits c.in_err-tree.ensures.err
    c.in_err-tree.ensures.ok) (omega arith)

node_of : (t : ℕ) (c : goal.choose_tree-After-drop-left_side-inside-2 t)
    → Adds c.args.table.now c.choose_alternatives.new.trees c.choose_alternatives.new.circuit c.push.new.self
    c.choose_alternatives.new.circuit 0
    × IsChosen c.push.new.self c.choose_alternatives.new.circuit c.args.choice (sort.Tree c.args.left.now.of)
    (symbol.Tree c.args.left.now) (symbol.Tree c.args.right.now) (symbol.Tree c.in_ok-tree.tree)
node_of t c =
    let trees = c.requires.trees in
    let lefts = side_copied c.args.table.now c.args.trees.now c.args.circuit.now c.args.left.now _ _ _ _
    trees.left_kept c.alternatives.ensures c.in_ok-left_side.ensures c.as_slice.ensures c.is_empty-2.ensures
    c.if-is_empty-2.false in
    let rights = side_copied c.args.table.now c.args.trees.now c.args.circuit.now c.args.right.now _ _ _ _
    trees.right_kept c.alternatives-2.ensures c.in_ok-right_side.ensures c.as_slice-2.ensures c.is_empty.ensures
    c.if-is_empty.false in
    let all = c.in_ok-alternatives.ensures in
    let tree = c.in_ok-tree.ensures in
    let two = two_sides c.args.table.now c.args.trees.now c.args.circuit.now c.requires.fits c.args.left.now
    c.args.right.now _ _ lefts rights trees.same in
    let high = sides_high c.args.table.now c.args.trees.now c.args.circuit.now c.requires.fits c.args.left.now
    c.args.right.now _ _ lefts rights trees.same in
    merged_node c.args.table.now c.args.trees.now c.choose_alternatives.new.trees c.push.new.self c.args.circuit.now
    c.choose_alternatives.new.circuit _ c.requires.fits all.adds c.args.choice c.args.left.now c.args.right.now
    c.as_slice.result.now c.as_slice-2.result.now c.in_ok-alternatives.alternatives lefts rights trees.same two.h _ high
    c.datatype.result.now c.datatype.ensures (ap length c.ctors_of-count.ensures) (all.merged two) _
    c.in_ok-tree.tree refl (c.max-height.ensures ∙ sym high) refl tree.nodes tree.ok tree.number tree.of tree.height

pub choose_tree-returns-clause-adds : goal.choose_tree-returns-clause-adds
choose_tree-returns-clause-adds t c =
    let trees = c.requires.trees in
    let lefts = side_copied c.args.table.now c.args.trees.now c.args.circuit.now c.args.left.now _ _ _ _
    trees.left_kept c.alternatives.ensures c.in_ok-left_side.ensures c.as_slice.ensures c.is_empty-2.ensures
    c.if-is_empty-2.false in
    let rights = side_copied c.args.table.now c.args.trees.now c.args.circuit.now c.args.right.now _ _ _ _
    trees.right_kept c.alternatives-2.ensures c.in_ok-right_side.ensures c.as_slice-2.ensures c.is_empty.ensures
    c.if-is_empty.false in
    let count = ap length c.ctors_of-count.ensures in
    let size = sides_bits c.args.table.now c.args.trees.now c.args.circuit.now c.requires.fits c.args.left.now
    c.args.right.now _ _ lefts rights trees.same c.datatype.result.now c.datatype.ensures _ count in
    Adds_more _ _ _ _ _ _ _ _ 0 _ c.in_ok-alternatives.ensures.adds (node_of t c).0 (omega arith)

pub choose_tree-returns-clause-chosen : goal.choose_tree-returns-clause-chosen
choose_tree-returns-clause-chosen t c = (node_of t c).1
