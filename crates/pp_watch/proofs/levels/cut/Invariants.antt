use Rattle.std.proofs.Common.{◌≡◌, ◌≤◌, length, take}
use Rattle.pp_watch.proofs.levels.cut.Given as goal

abbrev pub invariant-loop-last : goal.invariant-loop-last
invariant-loop-last l = record {
  few : length l.levels.items ≤ length l.initial.levels.items;
  is : l.levels.items ≡ take (length l.levels.items) l.initial.levels.items;
}

abbrev pub decreases-loop-last : goal.decreases-loop-last
decreases-loop-last l = length l.levels.items
