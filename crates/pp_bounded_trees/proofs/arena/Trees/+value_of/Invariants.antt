use Rattle.std.proofs.Common.{◌≡◌, Some, take}
use Rattle.pp_clause.specs.Assignment.{assigned}
use Rattle.pp_bounded_trees.specs.Values.{field_values, values_of}
use Rattle.pp_bounded_trees.proofs.Reading.{rank}
use Rattle.pp_bounded_trees.proofs.arena.Trees.+value_of.Given as goal

abbrev pub decreases-value_of : goal.decreases-value_of
decreases-value_of l = rank l.symbol.now

abbrev pub invariant-loop-field : goal.invariant-loop-field
invariant-loop-field l =
    field_values (assigned l.assignment) (values_of (assigned l.assignment) l.self.nodes) (take l.field-index l.fields)
    ≡ Some l.values
