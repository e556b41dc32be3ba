use Rattle.std.proofs.Common.{sym}
use Rattle.pp_refute.proofs.Marking.{stepped, stuck}
use Rattle.pp_refute.proofs.table.resolve.Goals as goal

pub returns-in_default-clause-no : goal.returns-in_default-clause-no
returns-in_default-clause-no c = λ _. stuck c.args.table.now c.args.clause.now (sym c.in_default.ensures.value)

pub returns-clause-yes : goal.returns-clause-yes
returns-clause-yes c = λ _.
    rw (c.mark_all.ensures, c.var.ensures.value)
    (stepped c.args.table.now c.args.clause.now c.in-Some.clash c.requires.fits c.requires.order
    (sym c.in-Some.ensures.value) c.in-Some.ensures.within)
