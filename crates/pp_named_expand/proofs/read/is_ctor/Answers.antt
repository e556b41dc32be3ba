use Rattle.std.proofs.Common.{refl}
use Rattle.pp_named_expand.proofs.ReadTrees.{has_ctors, test_is}
use Rattle.pp_named_expand.proofs.read.is_ctor.Goals as goal

pub expand-requires-clause-ctors : goal.expand-requires-clause-ctors
expand-requires-clause-ctors c = has_ctors c.args.table.now c.args.ctor c.args.tree.now.of c.requires.ctor

pub returns-clause-answer : goal.returns-clause-answer
returns-clause-answer c =
    let look = c.in_ok-expand.ensures in
    test_is c.args.table.now c.expand.new.trees c.expand.new.circuit look.moves.fits c.args.tree.now c.args.ctor
    c.ctor_in-found.result.now c.ctor_in-found.ensures c.args.trees.now c.args.circuit.now _ look.look refl
