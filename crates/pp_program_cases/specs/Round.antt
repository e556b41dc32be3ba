-- Questions of rounds whose arguments can be asked to stand for values. Source: own.
use Rattle.std.specs.Prelude.{All}
use Rattle.pp_prog.specs.declared.types.TypeTable.{TypeTable}
use Rattle.pp_bounded_trees.specs.declared.arena.BoundedTree.{BoundedTree}
use Rattle.pp_bounded_trees.specs.declared.arena.Trees.{Trees}
use Rattle.pp_bounded_trees.specs.Meaning.{BoundedFits}
use Rattle.pp_bounded_samples.specs.Kept.{IsOfSort}
use Rattle.pp_query.specs.declared.question.Question.{Question}

-- the domain fits the circuit, and the symbols of the arguments are of both
pub record CanAsk (types : TypeTable) (q : Question Trees BoundedTree) : Type 0 where
  pub fits : BoundedFits types q.domain q.circuit
  pub arguments : All (IsOfSort q.domain q.circuit) q.frame.arguments
