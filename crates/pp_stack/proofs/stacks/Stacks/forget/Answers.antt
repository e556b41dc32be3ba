use Rattle.std.proofs.Common.{arith}
use Rattle.pp_stack.proofs.Lifts.{forget_moves}
use Rattle.pp_stack.proofs.stacks.Stacks.forget.Goals as goal

pub returns-clause-state : goal.returns-clause-state
returns-clause-state c =
    let s = c.args.self.now in
    forget_moves s c.truncate.new.helds c.saturating_sub-kept.result c.args.count c.saturating_sub-self.result
    (omega arith) c.truncate.ensures (omega arith)
