use Rattle.std.proofs.Common.{List, length, ◌≤◌}
use Rattle.pp_instances.specs.Closure.{Filled, IsClosure}
use Rattle.pp_instances.specs.declared.member.Member.{Member}
use Rattle.pp_instances.proofs.closure.instances.Given as goal

abbrev pub invariant-loop-f : goal.invariant-loop-f
invariant-loop-f l = record {
  filling : (seeds : List Member) × (Filled l.typed l.f seeds × IsClosure l.typed seeds l.members);
  few : length l.members ≤ 512;
}
