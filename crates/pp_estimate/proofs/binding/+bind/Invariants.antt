use Rattle.std.proofs.Common.{◌≡◌, ◌++◌, drop, map}
use Rattle.pp_list.specs.Joined.{joined}
use Rattle.pp_estimate.specs.Counted.{counted}
use Rattle.pp_estimate.specs.Visits.{bind_each, bound, pattern_events}
use Rattle.pp_estimate.proofs.binding.+bind.Given as goal

abbrev pub invariant-bind_all-loop-i : goal.invariant-bind_all-loop-i
invariant-bind_all-loop-i l = record {
  bound : l.initial.env ++ bind_each l.whole (map (bound l.ctors) l.patterns) l.sorts
      ≡ l.env ++ bind_each l.whole (map (bound l.ctors) (drop l.i l.patterns)) (drop l.i l.sorts);
  counts : counted l.initial.counts (joined (map (pattern_events l.ctors) l.patterns))
      ≡ counted l.counts (joined (map (pattern_events l.ctors) (drop l.i l.patterns)));
}
