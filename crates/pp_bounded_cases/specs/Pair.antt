-- Pairs of trees, and the choice between them. Source: own.
use Rattle.std.specs.Prelude.{List}
use Rattle.pp_prog.specs.declared.types.TypeTable.{TypeTable}
use Rattle.pp_gate.specs.declared.gate.Gate.{Gate}
use Rattle.pp_bounded_trees.specs.declared.arena.Trees.{Trees}
use Rattle.pp_bounded_samples.specs.Kept.{KeepsPair, Kept}
use Rattle.pp_bounded_cases.specs.declared.trying.Compared.{Compared}

-- the domain keeps the two trees and the choice between them
pub record AreKept (types : TypeTable) (d : Trees) (gs : List Gate) (t : Compared) : Type 0 where
  pub pair : KeepsPair types d gs t.pair
  pub merged : Kept types d gs t.merged
