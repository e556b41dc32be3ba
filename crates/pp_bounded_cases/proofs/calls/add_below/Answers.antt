use Rattle.pp_bounded_cases.proofs.Held.{held_push, literal_held, of_one_data}
use Rattle.pp_bounded_cases.proofs.calls.add_below.Goals as goal

pub below-requires-clause-trees : goal.below-requires-clause-trees
below-requires-clause-trees c =
    of_one_data c.args.table.now c.args.trees.now c.args.circuit.now c.args.symbols.now _ _ c.in_ok-new.new
    c.in_ok-old.old c.requires.held c.as_slice.ensures c.as_slice-2.ensures c.in_ok-new.ensures
    c.in_ok-old.ensures c.if-new-old.false

pub returns : goal.returns
returns c =
    let answer = c.in_ok-goes_down.ensures.answer in
    held_push c.args.table.now c.args.trees.now c.args.trees.now c.args.circuit.now c.below.new.circuit _
    c.args.symbols.now c.push.new.self _ c.requires.held c.in_ok-goes_down.ensures.moves
    (literal_held c.args.trees.now c.below.new.circuit c.in_ok-goes_down.goes_down answer.of) c.in_ok-push.ensures.ok
