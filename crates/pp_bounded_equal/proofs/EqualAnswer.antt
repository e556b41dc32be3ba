-- The whole answer of `equal`.
use Rattle.std.proofs.Common.{ℕ, List}
use Rattle.pp_prog.specs.declared.types.TypeTable.{TypeTable}
use Rattle.pp_clause.specs.Literal.{Literal}
use Rattle.pp_gate.specs.declared.gate.Gate.{Gate}
use Rattle.pp_gate.specs.Growth.{AddsGates}
use Rattle.pp_domain.specs.declared.symbol.Symbol.TheVariants as symbol
use Rattle.pp_domain.specs.Answers.{IsEquality}
use Rattle.pp_domain.proofs.Composition.{Extended_grown}
use Rattle.pp_bounded_trees.specs.declared.arena.Trees.{Trees}
use Rattle.pp_bounded_trees.specs.declared.arena.BoundedTree.{BoundedTree}
use Rattle.pp_bounded_equal.specs.Equal.{IsEqualTest}
use Rattle.pp_bounded_trees.specs.Meaning.{BoundedFits, bounded_sense}
use Rattle.pp_bounded_trees.proofs.Lawful.{bounded_lawful}

pub test_equality : (types : TypeTable) (d : Trees) (gs hs : List Gate) (k : ℕ) (left right : BoundedTree)
    (l : Literal) → BoundedFits types d gs → AddsGates gs hs k
    → IsEqualTest d hs (symbol.Tree left) (symbol.Tree right) l
    → IsEquality bounded_sense types d gs d hs left right l
test_equality types d gs hs k left right l fits adds test = record {
  of = test.of;
  means = λ n a v w good one other. test.means a v w good.gates one other;
  extends = λ n a good any.
      Extended_grown bounded_sense types bounded_lawful d gs hs k n a a fits adds.grows adds.circuit good;
}
