use Rattle.std.proofs.Common.{◌-◌, arith, length}
use Rattle.std.proofs.lemmas.Option.{IfSome_then}
use Rattle.pp_trail.specs.Trail.{lits}
use Rattle.pp_watch.proofs.Literals.{other_before, other_from, others_none_both}
use Rattle.pp_watch.proofs.finding.other_not_false.Goals as goal

pub returns-in-Some-clause-some : goal.returns-in-Some-clause-some
returns-in-Some-clause-some c = other_from (lits c.args.trail.now.steps) c.args.clause.now c.min-start.result _
    c.args.lit c.in-Some.found.lit c.in-Some.ensures.some

pub returns-in-None-clause-some : goal.returns-in-None-clause-some
returns-in-None-clause-some c = IfSome_then c.first_other-in-None.result c.first_other-in-None.ensures.some
    (λ f h. other_before (lits c.args.trail.now.steps) c.args.clause.now c.min-start.result c.args.lit f.lit h)

pub returns-in-None-clause-none : goal.returns-in-None-clause-none
returns-in-None-clause-none c = others_none_both (lits c.args.trail.now.steps) c.args.clause.now c.min-start.result
    (length c.args.clause.now - c.min-start.result) c.args.lit c.first_other-in-None.result (omega arith)
    c.first_other-in-None.ensures.none c.in-None.ensures.none
