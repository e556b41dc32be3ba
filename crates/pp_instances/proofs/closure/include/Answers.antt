use Rattle.pp_instances.proofs.Grown.{gains_with}
use Rattle.pp_instances.proofs.closure.include.Goals as goal

pub returns-clause-gains : goal.returns-clause-gains
returns-clause-gains c =
    gains_with c.args.members.now c.insert.new.self c.args.member c.in_ok-insert.ensures.ok c.insert.ensures.once
