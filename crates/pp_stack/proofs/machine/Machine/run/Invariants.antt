use Rattle.std.proofs.Common.{◌≡◌}
use Rattle.pp_stack.specs.Left.{left}
use Rattle.pp_stack.specs.Moves.{AllHeld}
use Rattle.pp_stack.specs.State.{state_of}
use Rattle.pp_stack.proofs.machine.Machine.run.Given as goal

abbrev pub invariant-loop-turns : goal.invariant-loop-turns
invariant-loop-turns l =
    AllHeld l.self.stacks × (left l.code l.self.todo (state_of l.self.stacks)
    ≡ left l.initial.code l.initial.self.todo (state_of l.initial.self.stacks))

abbrev pub decreases-loop-turns : goal.decreases-loop-turns
decreases-loop-turns l = l.turns
