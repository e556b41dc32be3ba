use Rattle.pp_closure.proofs.LessNumbers.{ushr_at}
use Rattle.pp_closure.proofs.reduced.learn_shifted_unsigned.Goals as goal

pub returns : goal.returns
returns c v holds =
    let h = ushr_at _ v c.args.number c.args.a c.args.b c.requires in
    c.learn_reduced.ensures v.values h.reduces h.word holds
