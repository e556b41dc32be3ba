use Rattle.std.proofs.Common.{◌≡◌, ◌+◌, ◌-◌, ◌*◌, true, false, take}
use Rattle.std.specs.List.{list_all, list_any}
use Rattle.pp_bounded_trees.specs.Possible.{has_value, is_possible}
use Rattle.pp_bounded_trees.proofs.possible.+possible.Given as goal

abbrev pub decreases-has_value : goal.decreases-has_value
decreases-has_value l = 2 * l.height

abbrev pub decreases-is_possible : goal.decreases-is_possible
decreases-is_possible l = 2 * l.height + 1

abbrev pub invariant-has_value-loop-ctor : goal.invariant-has_value-loop-ctor
invariant-has_value-loop-ctor l =
    list_any (is_possible (has_value l.table (l.height - 1))) (take l.ctor-index l.ctor-items) ≡ false

abbrev pub invariant-is_possible-loop-sort : goal.invariant-is_possible-loop-sort
invariant-is_possible-loop-sort l = list_all (has_value l.table l.height) (take l.sort-index l.sort-items) ≡ true
