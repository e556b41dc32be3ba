use Rattle.pp_bounded_cases.proofs.Held.{held_push, literal_held, of_one_data}
use Rattle.pp_bounded_cases.proofs.calls.add_equality.Goals as goal

pub equal-requires-clause-trees : goal.equal-requires-clause-trees
equal-requires-clause-trees c =
    of_one_data c.args.table.now c.args.trees.now c.args.circuit.now c.args.symbols.now _ _ c.in_ok-left.left
    c.in_ok-right.right c.requires.held c.as_slice.ensures c.as_slice-2.ensures c.in_ok-left.ensures
    c.in_ok-right.ensures c.if-left-right.false

pub returns : goal.returns
returns c =
    let answer = c.in_ok-same.ensures.answer in
    held_push c.args.table.now c.args.trees.now c.args.trees.now c.args.circuit.now c.equal.new.circuit _
    c.args.symbols.now c.push.new.self _ c.requires.held c.in_ok-same.ensures.moves
    (literal_held c.args.trees.now c.equal.new.circuit c.in_ok-same.same answer.of) c.in_ok-push.ensures.ok
