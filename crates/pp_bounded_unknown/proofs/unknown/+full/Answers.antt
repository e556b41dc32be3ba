use Rattle.std.proofs.Common.{◌≡◌, ◌∙◌, ◌+◌, ◌≤◌, ◌-◌, ℕ, suc, List, length, refl, sym, ap, arith, subst}
use Rattle.std.proofs.lemmas.List.{length-take-le}
use Rattle.std.proofs.lemmas.Option.{same_Some, slice_get-get_or, slice_get_within}
use Rattle.pp_prog.specs.declared.id.CtorId.{CtorId}
use Rattle.pp_prog.specs.declared.sort.Sort.{Sort}
use Rattle.pp_prog.specs.declared.sort.Sort.TheVariants as sort
use Rattle.std.specs.List.{list_all}
use Rattle.pp_prog.specs.declared.types.Ctor.{Ctor}
use Rattle.pp_prog.specs.Sizes.{bits}
use Rattle.pp_prog.specs.Table.{is_sort}
use Rattle.pp_gate.proofs.Growing.{length-Grows}
use Rattle.pp_gate.proofs.Places.{at_read}
use Rattle.pp_domain.specs.declared.symbol.Symbol.TheVariants as symbol
use Rattle.pp_domain.specs.Moves.{Moves}
use Rattle.pp_domain.specs.Plain.{plain_gates}
use Rattle.pp_domain.proofs.PlainSymbols.{no_tree_is_word}
use Rattle.pp_domain.proofs.Composition.{Moves_grown, Moves_more, Moves_none, Moves_weaker}
use Rattle.pp_bounded_unknown.specs.Full.{AllPossible, AreFull, AreFullAlternatives, IsFull}
use Rattle.pp_bounded_trees.specs.Possible.{bits_if, ctor_bits, total, has_value}
use Rattle.pp_bounded_trees.specs.Meaning.{bounded_sense}
use Rattle.pp_bounded_trees.proofs.Candidates.{next_suc, positive_next, some_possible, take_next, total_taken}
use Rattle.pp_bounded_trees.proofs.Candidates.{total_within}
use Rattle.pp_bounded_unknown.proofs.Full.{AreFull_none, AreFull_push}
use Rattle.pp_bounded_unknown.proofs.FullParts.{AreFullAlternatives_none, AreFullAlternatives_push, all_at}
use Rattle.pp_bounded_unknown.proofs.FullParts.{height_within, plain_few, plain_full}
use Rattle.pp_bounded_unknown.proofs.FullTree.{full_node}
use Rattle.pp_bounded_trees.proofs.Known.{Moves_same}
use Rattle.pp_bounded_trees.proofs.Lawful.{bounded_lawful}
use Rattle.pp_bounded_unknown.proofs.unknown.+full.Goals as goal

plus_none : (n : ℕ) → n + 0 ≤ n
plus_none n = omega arith

-- ---- one symbol

pub full_symbol-unknown_plain-requires-clause-room : goal.full_symbol-unknown_plain-requires-clause-room
full_symbol-unknown_plain-requires-clause-room t c =
    let few = plain_few c.args.table.now c.args.height c.args.sort (no_tree_is_word _ c.in_default.not-Tree) in
    let room = c.requires.room in
    omega arith

pub full_symbol-returns-in_err-plain-in_default-clause-moves :
    goal.full_symbol-returns-in_err-plain-in_default-clause-moves
full_symbol-returns-in_err-plain-in_default-clause-moves t c =
    Moves_weaker _ _ _ _ _ _ (plain_gates c.args.sort) _
    (Moves_grown _ _ bounded_lawful _ _ _ (plain_gates c.args.sort) c.requires.fits c.unknown_plain.ensures.grows
    c.unknown_plain.ensures.circuit)
    (plain_few c.args.table.now c.args.height c.args.sort (no_tree_is_word _ c.in_default.not-Tree))

pub full_symbol-returns-in_ok-plain-in_default-clause-moves :
    goal.full_symbol-returns-in_ok-plain-in_default-clause-moves
full_symbol-returns-in_ok-plain-in_default-clause-moves t c =
    Moves_weaker _ _ _ _ _ _ (plain_gates c.args.sort) _
    (Moves_grown _ _ bounded_lawful _ _ _ (plain_gates c.args.sort) c.requires.fits c.unknown_plain.ensures.grows
    c.unknown_plain.ensures.circuit)
    (plain_few c.args.table.now c.args.height c.args.sort (no_tree_is_word _ c.in_default.not-Tree))

pub full_symbol-returns-in_ok-plain-in_default-clause-full : goal.full_symbol-returns-in_ok-plain-in_default-clause-full
full_symbol-returns-in_ok-plain-in_default-clause-full t c =
    plain_full _ _ _ _ _ _ _ (no_tree_is_word _ c.in_default.not-Tree) c.in_ok-plain-in_default.ensures.unknown

-- ---- fields

pub full_fields-loop-place-init : goal.full_fields-loop-place-init
full_fields-loop-place-init t c = record {
  moves = Moves_none _ _ bounded_lawful _ _ c.requires.fits;
  ok = refl;
  full = AreFull_none _ _ _ _ _ c.new-fields.ensures;
}

pub full_fields-full_symbol-requires : goal.full_fields-full_symbol-requires
full_fields-full_symbol-requires t c =
    let at = slice_get-get_or c.args.sorts.now c.loop-place.place sort.Int c.loop-place-test.true in
    let size = bits c.args.table.now c.args.height in
    let taken = total_taken size c.args.sorts.now c.loop-place.place _ at in
    let within = total_within size c.args.sorts.now (c.loop-place.place + 1) in
    let grown = (length-Grows _ _ _ c.loop-place.invariant.moves.grows).1 in (
      omega arith,
      (
        c.loop-place.invariant.moves.fits,
        (
          all_at (is_sort c.args.table.now.datatypes) c.args.sorts.now
              c.loop-place.place _ c.requires.sorts at,
          (
            all_at (has_value c.args.table.now c.args.height) c.args.sorts.now c.loop-place.place _
                c.requires.possible at,
            (let room = c.requires.room in omega arith),
          ),
        ),
      ),
    )

pub full_fields-returns-in_err-field-clause-moves : goal.full_fields-returns-in_err-field-clause-moves
full_fields-returns-in_err-field-clause-moves t c =
    let at = slice_get-get_or c.args.sorts.now c.loop-place.place sort.Int c.loop-place-test.true in
    let size = bits c.args.table.now c.args.height in
    let taken = total_taken size c.args.sorts.now c.loop-place.place _ at in
    let within = total_within size c.args.sorts.now (c.loop-place.place + 1) in
    Moves_more _ _ _ _ _ _ _ _ _ _ _ c.loop-place.invariant.moves c.in_err-field.ensures.moves (omega arith)

pub full_fields-returns-in_err-push-clause-moves : goal.full_fields-returns-in_err-push-clause-moves
full_fields-returns-in_err-push-clause-moves t c =
    let at = slice_get-get_or c.args.sorts.now c.loop-place.place sort.Int c.loop-place-test.true in
    let size = bits c.args.table.now c.args.height in
    let taken = total_taken size c.args.sorts.now c.loop-place.place _ at in
    let within = total_within size c.args.sorts.now (c.loop-place.place + 1) in
    Moves_more _ _ _ _ _ _ _ _ _ _ _ c.loop-place.invariant.moves c.in_ok-field.ensures.moves (omega arith)

pub full_fields-loop-place-preserved : goal.full_fields-loop-place-preserved
full_fields-loop-place-preserved t c =
    let at = slice_get-get_or c.args.sorts.now c.loop-place.place sort.Int c.loop-place-test.true in
    let size = bits c.args.table.now c.args.height in
    let taken = total_taken size c.args.sorts.now c.loop-place.place _ at in
    let now = c.loop-place.invariant in
    let field = c.in_ok-field.ensures in
    record {
      moves = Moves_more _ _ _ _ _ _ _ _ _ _ _ now.moves field.moves (omega arith);
      ok = field.ok ∙ now.ok;
      full = subst (λ (ss : List Sort). AreFull c.args.table.now c.args.circuit.now c.full_symbol.new.trees
          c.full_symbol.new.circuit c.args.height ss c.push.new.self) (sym (take_next c.args.sorts.now
          c.loop-place.place _ at))
          (AreFull_push _ _ _ _ _ _ _ _ _ now.moves.grows field.moves _ _ _ _ _ now.full field.full
          (height_within _ _) c.in_ok-push.ensures.ok);
    }

-- ---- constructors

pub full_alternatives-loop-place-init : goal.full_alternatives-loop-place-init
full_alternatives-loop-place-init t c = record {
  moves = Moves_none _ _ bounded_lawful _ _ c.requires.fits;
  ok = refl;
  full = AreFullAlternatives_none _ _ _ _ _ _ c.new-alternatives.ensures;
}

pub full_alternatives-ctor-requires : goal.full_alternatives-ctor-requires
full_alternatives-ctor-requires t c =
    let at = slice_get-get_or c.args.ctors.now c.loop-place.place (record { 0 = 0 }) c.loop-place-test.true in
    let p = c.requires.ctors _ _ at in slice_get_within _ _ _ p.1

pub full_alternatives-full_fields-requires : goal.full_alternatives-full_fields-requires
full_alternatives-full_fields-requires t c =
    let at = slice_get-get_or c.args.ctors.now c.loop-place.place (record { 0 = 0 }) c.loop-place-test.true in
    let p = c.requires.ctors _ _ at in
    let same : p.0 ≡ c.ctor.result.now = same_Some _ _ (sym p.1 ∙ c.ctor.ensures) in
    let sorts : c.as_slice-sorts.result.now ≡ p.0.fields =
    c.as_slice-sorts.ensures ∙ ap (λ (k : Ctor). k.fields) (sym same) in
    let size = ctor_bits c.args.table.now c.args.height in
    let taken = total_taken size c.args.ctors.now c.loop-place.place _ at in
    let within = total_within size c.args.ctors.now (c.loop-place.place + 1) in
    let own = ap (bits_if c.args.table.now c.args.height) p.1 in
    let bits_same = ap (total (bits c.args.table.now c.args.height)) sorts in
    let grown = (length-Grows _ _ _ c.loop-place.invariant.moves.grows).1 in (
      omega arith,
      (
        c.loop-place.invariant.moves.fits,
        (
          ap (list_all (is_sort c.args.table.now.datatypes)) sorts ∙ c.args.table.now.agree.fields _ _ p.1,
          (
            ap (list_all (has_value c.args.table.now c.args.height)) sorts ∙ p.2,
            (let room = c.requires.room in omega arith),
          ),
        ),
      ),
    )

pub full_alternatives-returns-in_err-fields-clause-moves : goal.full_alternatives-returns-in_err-fields-clause-moves
full_alternatives-returns-in_err-fields-clause-moves t c =
    let at = slice_get-get_or c.args.ctors.now c.loop-place.place (record { 0 = 0 }) c.loop-place-test.true in
    let size = ctor_bits c.args.table.now c.args.height in
    let taken = total_taken size c.args.ctors.now c.loop-place.place _ at in
    let within = total_within size c.args.ctors.now (c.loop-place.place + 1) in
    let own = ap (bits_if c.args.table.now c.args.height) c.ctor.ensures
    ∙ ap (total (bits c.args.table.now c.args.height)) (sym c.as_slice-sorts.ensures) in
    Moves_more _ _ _ _ _ _ _ _ _ _ _ c.loop-place.invariant.moves c.in_err-fields.ensures.moves (omega arith)

pub full_alternatives-returns-in_err-push-clause-moves : goal.full_alternatives-returns-in_err-push-clause-moves
full_alternatives-returns-in_err-push-clause-moves t c =
    let at = slice_get-get_or c.args.ctors.now c.loop-place.place (record { 0 = 0 }) c.loop-place-test.true in
    let size = ctor_bits c.args.table.now c.args.height in
    let taken = total_taken size c.args.ctors.now c.loop-place.place _ at in
    let within = total_within size c.args.ctors.now (c.loop-place.place + 1) in
    let own = ap (bits_if c.args.table.now c.args.height) c.ctor.ensures
    ∙ ap (total (bits c.args.table.now c.args.height)) (sym c.as_slice-sorts.ensures) in
    Moves_more _ _ _ _ _ _ _ _ _ _ _ c.loop-place.invariant.moves c.in_ok-fields.ensures.moves (omega arith)

pub full_alternatives-loop-place-preserved : goal.full_alternatives-loop-place-preserved
full_alternatives-loop-place-preserved t c =
    let at = slice_get-get_or c.args.ctors.now c.loop-place.place (record { 0 = 0 }) c.loop-place-test.true in
    let size = ctor_bits c.args.table.now c.args.height in
    let taken = total_taken size c.args.ctors.now c.loop-place.place _ at in
    let own = ap (bits_if c.args.table.now c.args.height) c.ctor.ensures
    ∙ ap (total (bits c.args.table.now c.args.height)) (sym c.as_slice-sorts.ensures) in
    let now = c.loop-place.invariant in
    let fields = c.in_ok-fields.ensures in
    let len = now.full.len in
    let short = length-take-le c.loop-place.place c.args.ctors.now
    (let lt = c.loop-place-test.true in omega arith) in
    record {
      moves = Moves_more _ _ _ _ _ _ _ _ _ _ _ now.moves fields.moves (omega arith);
      ok = fields.ok ∙ now.ok;
      full = AreFullAlternatives_push c.args.table.now c.loop-place.trees c.full_fields.new.trees c.args.circuit.now
          c.loop-place.circuit c.full_fields.new.circuit _ _ c.args.height now.moves.grows now.moves.fits.circuit
          fields.moves c.args.ctors.now c.args.lits.now c.loop-place.alternatives c.push.new.self c.loop-place.place _ _
          c.ctor.result.now now.full at (omega arith) refl
          (at_read c.args.lits.now c.loop-place.place _ (let lt = c.loop-place-test.true in let l = c.requires.lits
          in omega arith)
          c.index-lits-place.is) c.ctor.ensures
          (subst (λ (ss : List Sort). AreFull c.args.table.now c.loop-place.circuit c.full_fields.new.trees
          c.full_fields.new.circuit c.args.height ss c.in_ok-fields.fields) c.as_slice-sorts.ensures fields.full)
          c.in_ok-push.ensures.ok;
    }

-- ---- a tree

pub full_tree-returns-in_err-ctors-clause-moves : goal.full_tree-returns-in_err-ctors-clause-moves
full_tree-returns-in_err-ctors-clause-moves t c =
    Moves_weaker _ _ _ _ _ _ 0 _ (Moves_none _ _ bounded_lawful _ _ c.requires.fits) (omega arith)

pub full_tree-choices-requires-clause-some : goal.full_tree-choices-requires-clause-some
full_tree-choices-requires-clause-some t c =
    let some = some_possible c.args.table.now c.args.height c.args.of c.in_ok-ctors.ctors c.requires.of
    c.requires.possible c.in_ok-ctors.ensures in omega arith

pub full_tree-returns-in_err-lits-clause-moves : goal.full_tree-returns-in_err-lits-clause-moves
full_tree-returns-in_err-lits-clause-moves t c =
    let most = c.in_ok-ctors.ensures.most in
    let e = ap (λ n. bits c.args.table.now n (sort.Tree c.args.of)) (positive_next c.args.table.now c.args.height
    c.args.of c.requires.possible) in
    Moves_weaker _ _ _ _ _ _ _ _
    (Moves_grown _ _ bounded_lawful _ _ _ _ c.requires.fits c.in_err-lits.ensures.grows
    c.in_err-lits.ensures.circuit) (omega arith)

pub full_tree-full_alternatives-requires : goal.full_tree-full_alternatives-requires
full_tree-full_alternatives-requires t c =
    let most = c.in_ok-ctors.ensures.most in
    let e = ap (λ n. bits c.args.table.now n (sort.Tree c.args.of)) (positive_next c.args.table.now c.args.height
    c.args.of c.requires.possible) in
    let positive = positive_next c.args.table.now c.args.height c.args.of c.requires.possible in
    let grown = (length-Grows _ _ _ c.in_ok-lits.ensures.grows).1 in
    let fits = bounded_lawful.grows c.args.table.now c.args.trees.now c.args.circuit.now _ _ c.requires.fits
    c.in_ok-lits.ensures.grows c.in_ok-lits.ensures.circuit in
    let all = c.as_slice.ensures in
    let totals = ap (total (ctor_bits c.args.table.now (c.args.height - 1))) all in (
      omega arith,
      (
        fits,
        (
          subst (λ (cs : List CtorId). AllPossible c.args.table.now (c.args.height - 1) cs) (sym all)
              (λ j k at. let p = c.in_ok-ctors.ensures.each j k at in (p.0, p.1, p.3)),
          (
            (let l = c.in_ok-lits.ensures.len in let n = c.len.ensures in
                ap length c.as_slice-2.ensures ∙ l ∙ n ∙ ap length (sym all)),
            (let room = c.requires.room in omega arith),
          ),
        ),
      ),
    )

pub full_tree-returns-in_err-alternatives-clause-moves : goal.full_tree-returns-in_err-alternatives-clause-moves
full_tree-returns-in_err-alternatives-clause-moves t c =
    let most = c.in_ok-ctors.ensures.most in
    let e = ap (λ n. bits c.args.table.now n (sort.Tree c.args.of)) (positive_next c.args.table.now c.args.height
    c.args.of c.requires.possible) in
    let totals = ap (total (ctor_bits c.args.table.now (c.args.height - 1))) c.as_slice.ensures in
    Moves_more _ _ _ _ _ _ _ _ _ _ _
    (Moves_grown _ _ bounded_lawful _ _ _ _ c.requires.fits c.in_ok-lits.ensures.grows c.in_ok-lits.ensures.circuit)
    c.in_err-alternatives.ensures.moves (let n = c.len.ensures in omega arith)

pub full_tree-returns-in_err-tree-clause-moves : goal.full_tree-returns-in_err-tree-clause-moves
full_tree-returns-in_err-tree-clause-moves t c =
    let most = c.in_ok-ctors.ensures.most in
    let e = ap (λ n. bits c.args.table.now n (sort.Tree c.args.of)) (positive_next c.args.table.now c.args.height
    c.args.of c.requires.possible) in
    let totals = ap (total (ctor_bits c.args.table.now (c.args.height - 1))) c.as_slice.ensures in
    let moves = c.in_ok-alternatives.ensures.moves in
    Moves_more _ _ _ _ _ _ _ _ _ _ _
    (Moves_grown _ _ bounded_lawful _ _ _ _ c.requires.fits c.in_ok-lits.ensures.grows c.in_ok-lits.ensures.circuit)
    (Moves_more _ _ _ _ _ _ _ _ _ 0 _ moves
    (Moves_same _ _ _ _ moves.fits c.in_err-tree.ensures.err c.in_err-tree.ensures.ok) (plus_none _))
    (let n = c.len.ensures in omega arith)

node_of : (t : ℕ) (c : goal.full_tree-After-drop-ctors-inside-2 t)
    → Moves bounded_sense c.args.table.now c.full_alternatives.new.trees c.full_alternatives.new.circuit c.push.new.self
    c.full_alternatives.new.circuit 0
    × IsFull c.args.table.now c.args.circuit.now c.push.new.self c.full_alternatives.new.circuit
    (suc (c.args.height - 1)) (sort.Tree c.args.of) (symbol.Tree c.in_ok-tree.tree)
node_of t c =
    let lits = c.in_ok-lits.ensures in
    let all = c.in_ok-alternatives.ensures in
    let tree = c.in_ok-tree.ensures in
    full_node c.args.table.now c.args.trees.now c.full_alternatives.new.trees c.push.new.self c.args.circuit.now
    c.choices.new.circuit c.full_alternatives.new.circuit _ _ (c.args.height - 1) c.args.of c.in_ok-ctors.ctors
    c.in_ok-lits.lits c.in_ok-alternatives.alternatives _ c.in_ok-tree.tree lits.grows lits.choices
    c.in_ok-ctors.ensures
    (lits.len ∙ c.len.ensures) all.moves
    (subst (λ cs. AreFullAlternatives c.args.table.now c.choices.new.circuit c.full_alternatives.new.trees
    c.full_alternatives.new.circuit (c.args.height - 1) cs c.in_ok-lits.lits c.in_ok-alternatives.alternatives)
    c.as_slice.ensures (subst (λ ls. AreFullAlternatives c.args.table.now c.choices.new.circuit
    c.full_alternatives.new.trees c.full_alternatives.new.circuit (c.args.height - 1) c.as_slice.result.now ls
    c.in_ok-alternatives.alternatives) c.as_slice-2.ensures all.full))
    refl (c.from.ensures ∙ sym (next_suc c.args.table.now c.args.height c.args.of c.requires.possible)) refl tree.nodes
    tree.ok tree.number tree.of tree.height
    (let e = next_suc c.args.table.now c.args.height c.args.of c.requires.possible in
    let fits = c.ranges.height.fits in omega arith)

pub full_tree-returns-clause-moves : goal.full_tree-returns-clause-moves
full_tree-returns-clause-moves t c =
    let most = c.in_ok-ctors.ensures.most in
    let e = ap (λ n. bits c.args.table.now n (sort.Tree c.args.of)) (positive_next c.args.table.now c.args.height
    c.args.of c.requires.possible) in
    let totals = ap (total (ctor_bits c.args.table.now (c.args.height - 1))) c.as_slice.ensures in
    Moves_more _ _ _ _ _ _ _ _ _ _ _
    (Moves_grown _ _ bounded_lawful _ _ _ _ c.requires.fits c.in_ok-lits.ensures.grows c.in_ok-lits.ensures.circuit)
    (Moves_more _ _ _ _ _ _ _ _ _ 0 _ c.in_ok-alternatives.ensures.moves (node_of t c).0 (plus_none _))
    (let n = c.len.ensures in omega arith)

pub full_tree-returns-clause-full : goal.full_tree-returns-clause-full
full_tree-returns-clause-full t c =
    subst (λ h. IsFull c.args.table.now c.args.circuit.now c.push.new.self c.full_alternatives.new.circuit h
    (sort.Tree c.args.of) (symbol.Tree c.in_ok-tree.tree))
    (next_suc c.args.table.now c.args.height c.args.of c.requires.possible) (node_of t c).1
