use Rattle.std.proofs.Common.{sym}
use Rattle.pp_closure.proofs.alike.are_made_alike.Goals as goal

pub returns-in-Some-Some : goal.returns-in-Some-Some
returns-in-Some-Some c v holds is =
    c.do_alike.ensures v.types.ctors v.missing v.values (v.values c.args.one) (v.values c.args.other)
    (v.does c.args.one _ (sym c.in-Some-Some.ensures)) (v.does c.args.other _ (sym c.in-Some-Some.ensures')) holds is
