use Rattle.pp_modes.proofs.Asked.{if_ok}
use Rattle.pp_modes.proofs.Shared.{shared_by, shared_by_none}
use Rattle.pp_modes.proofs.list.shared_estimate.Goals as goal

pub returns-in-Some-clause-shared : goal.returns-in-Some-clause-shared
returns-in-Some-clause-shared c =
    if_ok c.of.result c.of.ensures.estimate
    (λ e is. shared_by c.args.program.now c.args.asked.round c.args.asked.depth c.args.f e c.in-Some.check.0
    c.in-Some.ensures.of is)

pub returns-in-None-clause-shared : goal.returns-in-None-clause-shared
returns-in-None-clause-shared c =
    shared_by_none c.args.program.now c.args.asked.round c.args.asked.depth c.args.f 0
    (c.first_check.ensures.none c.in-None.is)
