use Rattle.std.proofs.Common.{◌≡◌, take}
use Rattle.pp_store.specs.Values.{AreHeld, values_of}
use Rattle.pp_stack.proofs.runs.machine_on.Given as goal

abbrev pub invariant-loop-arg : goal.invariant-loop-arg
invariant-loop-arg l = AreHeld l.store l.env × (values_of l.store l.env ≡ take l.arg-index l.args)
