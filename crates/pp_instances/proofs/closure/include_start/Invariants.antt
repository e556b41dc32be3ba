use Rattle.std.proofs.Common.{take, length, [], ◌≤◌}
use Rattle.pp_instances.specs.Growth.{Gains}
use Rattle.pp_instances.specs.Uses.{start_from}
use Rattle.pp_instances.proofs.closure.include_start.Given as goal

abbrev pub invariant-loop-f : goal.invariant-loop-f
invariant-loop-f l = record {
  gains : Gains [] (start_from 0 (take l.f l.defs)) l.members;
  few : length l.members ≤ 512;
}
