use Rattle.pp_induct.proofs.Undone.{undone_told}
use Rattle.pp_induct.proofs.concluding.is_undone.Goals as goal

pub returns-else-is_some : goal.returns-else-is_some
returns-else-is_some c =
    undone_told c.args.checks.now c.args.ends.now c.args.f.0 c.first_check.result c.first_check-else-is_some.result
    c.is_some.result c.is_some-else-is_some.result c.first_check.ensures c.first_check-else-is_some.ensures
    c.is_some.ensures c.is_some-else-is_some.ensures c.if-is_some.false
