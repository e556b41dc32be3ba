use Rattle.std.proofs.Common.{sym}
use Rattle.pp_estimate.proofs.Totals.{number_none, number_some}
use Rattle.pp_estimate.proofs.instances.count_at.Goals as goal

pub returns-in-None : goal.returns-in-None
returns-in-None c = sym (number_none c.args.counts.now c.args.i (sym c.in-None.ensures))

pub returns-in-Some : goal.returns-in-Some
returns-in-Some c = sym (number_some c.args.counts.now c.args.i c.in-Some.n.now (sym c.in-Some.ensures))
