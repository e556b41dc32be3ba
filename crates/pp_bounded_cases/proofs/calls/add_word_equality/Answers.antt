use Rattle.pp_domain.proofs.AnySort.{Moves_gates}
use Rattle.pp_named_trees.specs.Meaning.{named_sense}
use Rattle.pp_named_trees.proofs.Lawful.{named_lawful}
use Rattle.pp_bounded_cases.proofs.Held.{held_push, literal_held, read_word}
use Rattle.pp_bounded_cases.proofs.calls.add_word_equality.Goals as goal

pub equal-requires-clause-left : goal.equal-requires-clause-left
equal-requires-clause-left c =
    read_word c.args.table.now c.args.trees.now c.args.circuit.now c.args.symbols.now _ c.requires.held
    c.as_slice.ensures c.in_ok-left.left c.in_ok-left.ensures

pub equal-requires-clause-right : goal.equal-requires-clause-right
equal-requires-clause-right c =
    read_word c.args.table.now c.args.trees.now c.args.circuit.now c.args.symbols.now _ c.requires.held
    c.as_slice-2.ensures c.in_ok-right.right c.in_ok-right.ensures

pub returns : goal.returns
returns c =
    held_push c.args.table.now c.args.trees.now c.args.trees.now c.args.circuit.now c.equal.new.circuit 64
    c.args.symbols.now c.push.new.self _ c.requires.held
    (Moves_gates named_sense c.args.table.now named_lawful c.args.trees.now c.args.circuit.now c.equal.new.circuit 64
    c.requires.held.fits c.in_ok-same.ensures.adds)
    (literal_held c.args.trees.now c.equal.new.circuit c.in_ok-same.same c.in_ok-same.ensures.of)
    c.in_ok-push.ensures.ok
