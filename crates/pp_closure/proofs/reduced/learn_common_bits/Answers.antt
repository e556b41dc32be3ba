use Rattle.pp_closure.proofs.LessNumbers.{and_at}
use Rattle.pp_closure.proofs.reduced.learn_common_bits.Goals as goal

pub returns : goal.returns
returns c v holds =
    let h = and_at _ v c.args.number c.args.a c.args.b c.requires in
    c.learn_reduced-2.ensures v.values h.1.reduces h.1.word
    (c.learn_reduced.ensures v.values h.0.reduces h.0.word holds)
