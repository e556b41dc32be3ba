use Rattle.std.proofs.Common.{take}
use Rattle.pp_instances.specs.Growth.{HasFunction}
use Rattle.pp_instances.proofs.closure.has_function.Given as goal

abbrev pub invariant-loop-m : goal.invariant-loop-m
invariant-loop-m l = HasFunction (take l.m-index l.members) l.f → ⊥
