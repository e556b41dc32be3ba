use Rattle.std.proofs.Common.{◌≡◌, ◌+◌, ◌*◌, take}
use Rattle.pp_prog.specs.Sizes.{bits}
use Rattle.pp_domain.specs.Moves.{Moves}
use Rattle.pp_bounded_unknown.specs.Full.{AreFull, AreFullAlternatives}
use Rattle.pp_bounded_trees.specs.Possible.{ctor_bits, total}
use Rattle.pp_bounded_trees.specs.Meaning.{bounded_sense}
use Rattle.pp_bounded_unknown.proofs.unknown.+full.Given as goal

abbrev pub decreases-full_tree : goal.decreases-full_tree
decreases-full_tree l = 4 * l.height

abbrev pub decreases-full_symbol : goal.decreases-full_symbol
decreases-full_symbol l = 4 * l.height + 1

abbrev pub decreases-full_fields : goal.decreases-full_fields
decreases-full_fields l = 4 * l.height + 2

abbrev pub decreases-full_alternatives : goal.decreases-full_alternatives
decreases-full_alternatives l = 4 * l.height + 3

abbrev pub invariant-full_alternatives-loop-place : goal.invariant-full_alternatives-loop-place
invariant-full_alternatives-loop-place l = record {
  moves : Moves bounded_sense l.table l.initial.trees l.initial.circuit l.trees l.circuit
      (4 * total (ctor_bits l.table l.height) (take l.place l.ctors));
  ok : l.trees.ok ≡ l.initial.trees.ok;
  full : AreFullAlternatives l.table l.initial.circuit l.trees l.circuit l.height (take l.place l.ctors) l.lits
      l.alternatives;
}

abbrev pub invariant-full_fields-loop-place : goal.invariant-full_fields-loop-place
invariant-full_fields-loop-place l = record {
  moves : Moves bounded_sense l.table l.initial.trees l.initial.circuit l.trees l.circuit
      (4 * total (bits l.table l.height) (take l.place l.sorts));
  ok : l.trees.ok ≡ l.initial.trees.ok;
  full : AreFull l.table l.initial.circuit l.trees l.circuit l.height (take l.place l.sorts) l.fields;
}
