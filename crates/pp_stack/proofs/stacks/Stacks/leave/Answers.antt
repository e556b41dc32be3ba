use Rattle.std.proofs.Common.{◌∙◌, ap, arith}
use Rattle.pp_stack.specs.declared.stacks.Stacks.{Stacks}
use Rattle.pp_stack.specs.State.{state_of}
use Rattle.pp_stack.proofs.Lifts.{leave_moves, none_measured, some_measured}
use Rattle.pp_stack.proofs.stacks.Stacks.leave.Goals as goal
use Rattle.pp_stack.proofs.stacks.Stacks.leave.Goals.{in-Some, in_default}

pub returns-clause-state : goal.returns-clause-state
returns-clause-state c =
    let s = c.args.self.now in
    elim c.match-self.branch [
      | in-Some w ↦ ap (λ (t : Stacks). state_of (record t { here = c.args.here })) w.self-is
          ∙ leave_moves s c.truncate.new.helds w.truncate-in-Some.new.helds c.args.here c.saturating_sub-kept.result
          (omega arith) c.truncate.ensures (some_measured s w.truncate-in-Some.new.helds
          w.saturating_sub-kept-in-Some.result w.in-Some.count w.in-Some.is (omega arith) w.truncate-in-Some.ensures)
      | in_default w ↦ ap (λ (t : Stacks). state_of (record t { here = c.args.here })) w.self-is
          ∙ leave_moves s c.truncate.new.helds s.measures c.args.here c.saturating_sub-kept.result
          (omega arith) c.truncate.ensures (none_measured s w.in_default.is)
    ]
