use Rattle.std.proofs.Common.{◌+◌, ◌-◌, length}
use Rattle.pp_named_below.specs.Sound.{IsSearch}
use Rattle.pp_named_below.proofs.Searching.{Affords}
use Rattle.pp_named_below.proofs.comparison.below.Given as goal

abbrev pub invariant-loop-next : goal.invariant-loop-next
invariant-loop-next l = record {
  affords : Affords l.initial.circuit l.circuit (length l.trees.expansions) l.search;
  search : IsSearch l.table l.trees l.circuit l.new l.old l.search;
}

abbrev pub decreases-loop-next : goal.decreases-loop-next
decreases-loop-next l = l.search.left + length l.search.visits - l.next
