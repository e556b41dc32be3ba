use Rattle.std.proofs.Common.{◌∙◌, refl, sym, arith}
use Rattle.pp_domain.proofs.Composition.{Moves_weaker}
use Rattle.pp_bounded_unknown.proofs.AnyValue.{full_unknown, nothing_moves, nothing_unknown, refused_moves}
use Rattle.pp_bounded_unknown.proofs.AnyValue.{refused_unknown}
use Rattle.pp_bounded_trees.proofs.Known.{Moves_same}
use Rattle.pp_bounded_unknown.proofs.unknown.unknown_tree.Goals as goal

pub returns-then-has_value-clause-answer : goal.returns-then-has_value-clause-answer
returns-then-has_value-clause-answer c =
    let tree = c.in_ok-tree.ensures in
    full_unknown _ _ _ _ _ _ _ _ _ c.requires.fits (sym c.has_value.ensures ∙ c.if-has_value.true) tree.moves tree.ok
    tree.full

pub returns-in_err-tree-2-clause-moves : goal.returns-in_err-tree-2-clause-moves
returns-in_err-tree-2-clause-moves c =
    Moves_weaker _ _ _ _ _ _ 0 _ (Moves_same _ _ _ _ c.requires.fits c.in_err-tree-2.ensures.err
    c.in_err-tree-2.ensures.ok) (omega arith)

pub returns-then-height-eq0-clause-moves : goal.returns-then-height-eq0-clause-moves
returns-then-height-eq0-clause-moves c =
    let tree = c.in_ok-tree-2.ensures in
    Moves_weaker _ _ _ _ _ _ 0 _ (nothing_moves c.args.table.now c.args.trees.now c.push.new.self c.args.circuit.now
    c.args.of c.args.height _ c.in_ok-tree-2.tree c.requires.fits (sym c.has_value.ensures ∙ c.if-has_value.false) refl
    c.from.ensures c.new-alternatives.ensures tree.nodes tree.number tree.of tree.height
    (let f = c.ranges.height.fits in omega arith) tree.ok) (omega arith)

pub returns-then-height-eq0-clause-answer : goal.returns-then-height-eq0-clause-answer
returns-then-height-eq0-clause-answer c =
    let tree = c.in_ok-tree-2.ensures in
    nothing_unknown c.args.table.now c.args.trees.now c.push.new.self c.args.circuit.now
    c.args.of c.args.height _ c.in_ok-tree-2.tree c.requires.fits (sym c.has_value.ensures ∙ c.if-has_value.false) refl
    c.from.ensures c.new-alternatives.ensures tree.nodes tree.number tree.of tree.height
    (let f = c.ranges.height.fits in omega arith) c.if-height-eq0.true tree.ok

pub returns-clause-moves : goal.returns-clause-moves
returns-clause-moves c =
    let tree = c.in_ok-tree-2.ensures in
    Moves_weaker _ _ _ _ _ _ 0 _ (refused_moves c.args.table.now c.args.trees.now _ c.args.circuit.now
    c.args.of c.args.height _ c.in_ok-tree-2.tree c.requires.fits (sym c.has_value.ensures ∙ c.if-has_value.false) refl
    c.from.ensures c.new-alternatives.ensures tree.nodes tree.number tree.of tree.height
    (let f = c.ranges.height.fits in omega arith) c.truth.result c.truth.ensures.stands c.negated-trees.ensures)
    (omega arith)

pub returns-clause-answer : goal.returns-clause-answer
returns-clause-answer c =
    let tree = c.in_ok-tree-2.ensures in
    refused_unknown c.args.table.now c.args.trees.now _ c.args.circuit.now
    c.args.of c.args.height _ c.in_ok-tree-2.tree c.requires.fits (sym c.has_value.ensures ∙ c.if-has_value.false) refl
    c.from.ensures c.new-alternatives.ensures tree.nodes tree.number tree.of tree.height
    (let f = c.ranges.height.fits in omega arith) c.truth.result c.truth.ensures.stands c.negated-trees.ensures
    c.if-height-eq0.false
