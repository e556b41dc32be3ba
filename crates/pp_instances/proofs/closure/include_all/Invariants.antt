use Rattle.std.proofs.Common.{take, map, length, ◌≤◌}
use Rattle.pp_instances.specs.Growth.{Gains}
use Rattle.pp_instances.specs.Uses.{at_args}
use Rattle.pp_instances.proofs.closure.include_all.Given as goal

abbrev pub invariant-loop-i : goal.invariant-loop-i
invariant-loop-i l = record {
  gains : Gains l.initial.members (map (at_args l.args) (take l.i l.mentions)) l.members;
  few : length l.members ≤ 512;
}
