use Rattle.std.proofs.Common.{sym}
use Rattle.pp_trail.proofs.Marking.{place_shown, absent_from_mark}
use Rattle.pp_trail.proofs.trail.Trail.place.Goals as goal

pub returns-in-Some-clause-some : goal.returns-in-Some-clause-some
returns-in-Some-clause-some c = place_shown c.args.self.now.steps c.args.var c.in-Some.mark c.in-Some.ensures.value

pub returns-in-None-clause-none : goal.returns-in-None-clause-none
returns-in-None-clause-none c = absent_from_mark 0 c.args.self.now.steps c.args.var (sym c.in-None.ensures.value)
