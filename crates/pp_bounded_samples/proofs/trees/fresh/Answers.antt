use Rattle.pp_bounded_samples.proofs.trees.fresh.Goals as goal

pub returns-clause-fits : goal.returns-clause-fits
returns-clause-fits c = let own = c.in_ok-domain.ensures.new c.args.table.now in own.fresh.fits
