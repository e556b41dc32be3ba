use Rattle.std.proofs.Common.{◌∙◌, ap, drop}
use Rattle.pp_stack.proofs.Stacking.{pass_state}
use Rattle.pp_stack.proofs.stacks.Stacks.pass.Goals as goal

pub returns-clause-state : goal.returns-clause-state
returns-clause-state c =
    pass_state c.args.self.now c.args.first c.truncate.new.helds c.behind-values.result.now c.push_all.new.to
    c.truncate.ensures (c.behind-values.ensures ∙ ap (drop c.args.first) c.as_slice.ensures) c.in_ok-push_all.ensures
