use Rattle.std.proofs.Common.{List, length, ◌≤◌, ◌-◌}
use Rattle.pp_instances.specs.Closure.{Distinct}
use Rattle.pp_instances.specs.Growth.{Stage}
use Rattle.pp_instances.specs.declared.member.Member.{Member}
use Rattle.pp_instances.proofs.closure.close.Given as goal

abbrev pub invariant-loop-next : goal.invariant-loop-next
invariant-loop-next l = record {
  few : length l.members ≤ 512;
  once : Distinct l.members;
  stage : (seeds : List Member) → Stage l.typed seeds l.first l.initial.members → Stage l.typed seeds l.next l.members;
}

abbrev pub decreases-loop-next : goal.decreases-loop-next
decreases-loop-next l = 512 - l.next
