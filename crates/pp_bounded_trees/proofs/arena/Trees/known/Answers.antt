use Rattle.std.proofs.Common.{◌≡◌, ◌∙◌, List, [], ◌∷◌, ◌++◌, Some, map, sym, ap, arith}
use Rattle.pp_prog.specs.declared.types.Ctor.{Ctor}
use Rattle.pp_prog.specs.Values.{greatest}
use Rattle.pp_domain.specs.declared.symbol.Symbol.{Symbol}
use Rattle.pp_domain.proofs.Composition.{Moves_none}
use Rattle.pp_bounded_trees.specs.declared.arena.Alternative.{Alternative}
use Rattle.pp_bounded_trees.specs.declared.arena.BoundedTree.{BoundedTree}
use Rattle.pp_bounded_trees.specs.Arena.{height_of}
use Rattle.pp_bounded_trees.specs.Meaning.{bounded_sense}
use Rattle.pp_bounded_trees.proofs.Lawful.{bounded_lawful}
use Rattle.pp_bounded_trees.proofs.Known.{Moves_same, heights_same, known_construct, known_fits}
use Rattle.pp_bounded_trees.proofs.Pushed.{Moves_pushed}
use Rattle.pp_bounded_trees.proofs.arena.Trees.known.Goals as goal

some_same : (x y : Ctor) → Some x ≡ Some y → x ≡ y
some_same x y e = cc

pub returns-then-highest-clause-moves : goal.returns-then-highest-clause-moves
returns-then-highest-clause-moves c =
    Moves_none bounded_sense c.args.table.now bounded_lawful c.args.self.now c.args.circuit.now c.requires.fits

pub returns-in_err-fields-clause-moves : goal.returns-in_err-fields-clause-moves
returns-in_err-fields-clause-moves c =
    Moves_none bounded_sense c.args.table.now bounded_lawful c.args.self.now c.args.circuit.now c.requires.fits

pub returns-in_err-push-clause-moves : goal.returns-in_err-push-clause-moves
returns-in_err-push-clause-moves c =
    Moves_none bounded_sense c.args.table.now bounded_lawful c.args.self.now c.args.circuit.now c.requires.fits

pub returns-in_err-tree-clause-moves : goal.returns-in_err-tree-clause-moves
returns-in_err-tree-clause-moves c =
    Moves_same c.args.table.now c.args.self.now c.push-2.new.self c.args.circuit.now c.requires.fits
    c.in_err-tree.ensures.err c.in_err-tree.ensures.ok

pub returns-clause-moves : goal.returns-clause-moves
returns-clause-moves c =
    let entry = some_same _ _ (sym c.requires.fields.1 ∙ c.ctor.ensures) in
    let fields = c.in_ok-fields.ensures ∙ c.as_slice-2.ensures in
    let known : List (Symbol BoundedTree) → List Alternative =
    λ xs. record { ctor = c.args.ctor; lit = c.truth-lit.result; fields = xs } ∷ [] in
    let alternatives = c.in_ok-push.ensures.ok ∙ ap (λ (l : List Alternative). l ++ known c.in_ok-fields.fields)
    c.new-alternatives.ensures
    ∙ ap known fields in
    let highest = c.highest-highest.ensures ∙ ap (λ (xs : List (Symbol BoundedTree)). greatest (map height_of xs))
    c.as_slice.ensures
    ∙ ap greatest (sym (heights_same c.args.self.now c.args.fields.now)) in
    Moves_pushed c.args.table.now c.args.self.now c.push-2.new.self c.args.circuit.now _ c.requires.fits
    c.in_ok-tree.ensures.nodes
    c.in_ok-tree.ensures.ok
    (known_fits c.args.table.now c.args.self.now c.args.circuit.now c.args.ctor c.requires.fields.0 c.truth-lit.result
    c.args.fields.now _ c.requires.fields.1 c.requires.fields.2 c.truth-lit.ensures.stands
    (ap (λ (k : Ctor). k.of) entry)
    (omega (arith, highest)) alternatives)

pub returns-clause-answer : goal.returns-clause-answer
returns-clause-answer c =
    let entry = some_same _ _ (sym c.requires.fields.1 ∙ c.ctor.ensures) in
    let fields = c.in_ok-fields.ensures ∙ c.as_slice-2.ensures in
    let known : List (Symbol BoundedTree) → List Alternative =
    λ xs. record { ctor = c.args.ctor; lit = c.truth-lit.result; fields = xs } ∷ [] in
    let alternatives = c.in_ok-push.ensures.ok ∙ ap (λ (l : List Alternative). l ++ known c.in_ok-fields.fields)
    c.new-alternatives.ensures
    ∙ ap known fields in
    let highest = c.highest-highest.ensures ∙ ap (λ (xs : List (Symbol BoundedTree)). greatest (map height_of xs))
    c.as_slice.ensures
    ∙ ap greatest (sym (heights_same c.args.self.now c.args.fields.now)) in
    known_construct c.args.table.now c.args.self.now c.push-2.new.self c.args.circuit.now c.args.ctor
    c.requires.fields.0
    c.truth-lit.result c.args.fields.now _ c.in_ok-tree.tree c.requires.fits c.requires.fields.1 c.requires.fields.2
    c.truth-lit.ensures.stands (ap (λ (k : Ctor). k.of) entry) (omega (arith, highest)) alternatives
    c.in_ok-tree.ensures.nodes c.in_ok-tree.ensures.ok c.in_ok-tree.ensures.number c.in_ok-tree.ensures.of
    c.in_ok-tree.ensures.height
