use Rattle.std.proofs.Common.{subst}
use Rattle.pp_domain.specs.Answers.{Fresh}
use Rattle.pp_domain.specs.Moves.{Moves}
use Rattle.pp_named_trees.specs.declared.arena.NamedTrees.{NamedTrees}
use Rattle.pp_named_trees.specs.Meaning.{named_sense}
use Rattle.pp_named.proofs.domain.NamedDomain.limit_to.Goals as goal

pub returns-clause-fresh : goal.returns-clause-fresh
returns-clause-fresh c types gs =
    subst (λ (d : NamedTrees). Fresh named_sense types d gs → Fresh named_sense types c.limit_to.new.self gs)
    c.self.view_is (c.limit_to.ensures.fresh types gs)

pub returns-clause-moves : goal.returns-clause-moves
returns-clause-moves c types gs =
    subst (λ (d : NamedTrees). Fresh named_sense types d gs → Moves named_sense types d gs c.limit_to.new.self gs 0)
    c.self.view_is (c.limit_to.ensures.moves types gs)
