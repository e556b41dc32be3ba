use Rattle.std.proofs.Common.{refl}
use Rattle.pp_named_trees.proofs.Lawful.{shorter_fresh, shorter_moves}
use Rattle.pp_named_trees.proofs.arena.NamedTrees.limit_to.Goals as goal

pub returns-clause-fresh : goal.returns-clause-fresh
returns-clause-fresh c types gs fresh =
    shorter_fresh types c.args.self.now gs _ c.shorter-self.ensures.most fresh _ refl

pub returns-clause-moves : goal.returns-clause-moves
returns-clause-moves c types gs fresh =
    shorter_moves types c.args.self.now gs _ c.shorter-self.ensures.most fresh _ refl
