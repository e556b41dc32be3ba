use Rattle.pp_named_instances.proofs.ContentTests.{agreement_both}
use Rattle.pp_named_instances.proofs.agreement.agreement_if.Goals as goal

pub returns-in_ok-both-clause-agree : goal.returns-in_ok-both-clause-agree
returns-in_ok-both-clause-agree c =
    agreement_both c.args.circuit.now c.agreement.new.circuit c.and.new.self _ _ c.args.all c.in_ok-agree.agree
    c.in_ok-both.both c.args.y.now c.args.z.now c.if-z-y.true c.in_ok-agree.ensures.adds
    c.in_ok-agree.ensures.agreement c.in_ok-both.ensures.adds c.in_ok-both.ensures.stands
