use Rattle.pp_domain.proofs.Composition.{Moves_none}
use Rattle.pp_bounded_trees.specs.Meaning.{bounded_sense}
use Rattle.pp_bounded_trees.proofs.Lawful.{bounded_lawful}
use Rattle.pp_bounded.proofs.domain.BoundedDomain.limit_to.Goals as goal

pub returns-clause-moves : goal.returns-clause-moves
returns-clause-moves c types gs fresh =
    Moves_none bounded_sense types bounded_lawful c.args.self.now gs fresh.fits
