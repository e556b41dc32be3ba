use Rattle.pp_domain.proofs.Composition.{Moves_none}
use Rattle.pp_bounded_trees.specs.Meaning.{bounded_sense}
use Rattle.pp_bounded_trees.proofs.Lawful.{bounded_lawful}
use Rattle.pp_bounded.proofs.domain.BoundedDomain.is_ctor.Goals as goal

pub returns-clause-moves : goal.returns-clause-moves
returns-clause-moves c =
    Moves_none bounded_sense c.args.table.now bounded_lawful c.args.self.now c.args.circuit.now c.requires.fits
