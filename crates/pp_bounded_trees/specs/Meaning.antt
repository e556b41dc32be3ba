-- What the domain of bounded trees means. (own)
use Rattle.std.specs.Prelude.{◌≡◌, ◌^◌, true, List, [], length, Some}
use Rattle.pp_prog.specs.declared.types.TypeTable.{TypeTable}
use Rattle.pp_gate.specs.declared.gate.Gate.{Gate}
use Rattle.pp_gate.specs.Circuit.{IsCircuit, IsOf}
use Rattle.pp_domain.specs.Naming.{IsNaming}
use Rattle.pp_domain.specs.Sense.{Sense}
use Rattle.pp_bounded_trees.specs.declared.arena.Trees.{Trees}
use Rattle.pp_bounded_trees.specs.declared.arena.BoundedTree.{BoundedTree}
use Rattle.pp_bounded_trees.specs.Arena.{ArenaFits, TreeFits}
use Rattle.pp_bounded_trees.specs.Values.{value_at, values_of}

-- the circuit has `ok`, and the arena fits
pub record BoundedFits (types : TypeTable) (d : Trees) (gs : List Gate) : Type 0 where
  pub circuit : IsCircuit gs
  pub ok_of : IsOf gs d.ok
  pub arena : ArenaFits types gs d.nodes

abbrev pub bounded_sense : Sense Trees BoundedTree
bounded_sense = record {
  exact = true;
  Fits = BoundedFits;
  Node = λ d t. TreeFits d.nodes (length d.nodes) t;
  data_of = λ d t. t.of;
  height = λ d t. t.height;
  Expanded = λ d t. Unit {0};
  looks = λ d. [];
  compares = λ d. 0;
  ok = λ d. d.ok;
  limit = λ d. 2 ^ 30;
  Reaches = λ d n. Unit {0};
  Admits = IsNaming;
  Matches = λ d a n. Unit {0};
  Stands = λ d a n t v. value_at (values_of a d.nodes) t.number ≡ Some v;
}
