-- The whole answer of `merge`.
use Rattle.std.proofs.Common.{◌≡◌, ℕ, Bool, true, false, if◌then◌else◌, List, Some, refl}
use Rattle.pp_prog.specs.declared.sort.Sort.TheVariants as sort
use Rattle.pp_prog.specs.declared.types.TypeTable.{TypeTable}
use Rattle.pp_prog.specs.declared.value.Value.{Value}
use Rattle.pp_clause.specs.Literal.{Literal, lit_value}
use Rattle.pp_gate.specs.declared.gate.Gate.{Gate}
use Rattle.pp_domain.specs.declared.symbol.Symbol.TheVariants as symbol
use Rattle.pp_domain.specs.Answers.{IsMerge}
use Rattle.pp_domain.proofs.Composition.{Extended_steady}
use Rattle.pp_bounded_trees.specs.declared.arena.Trees.{Trees}
use Rattle.pp_bounded_trees.specs.declared.arena.BoundedTree.{BoundedTree}
use Rattle.pp_bounded_trees.specs.Meaning.{BoundedFits, bounded_sense}
use Rattle.pp_bounded_merge.specs.Merge.{Adds, IsChosen}
use Rattle.pp_bounded_trees.specs.Values.{symbol_value, value_at, values_of}
use Rattle.pp_bounded_trees.proofs.Lawful.{bounded_lawful}

pub chosen_merge : (types : TypeTable) (d e : Trees) (gs hs : List Gate) (k : ℕ) (choice : Literal)
    (left right t : BoundedTree) → BoundedFits types d gs → Adds types d gs e hs k
    → IsChosen e hs choice (sort.Tree left.of) (symbol.Tree left) (symbol.Tree right) (symbol.Tree t)
    → IsMerge bounded_sense types d gs e hs choice left right t
chosen_merge types d e gs hs k choice left right t fits adds chosen = record {
  node = chosen.of.0;
  data_of = chosen.of.1;
  height = chosen.height;
  means = λ n a v good stands.
      chosen.means a (lit_value a choice) v good.gates refl (side a v (lit_value a choice) stands);
  extends = λ n a good any.
      Extended_steady bounded_sense types bounded_lawful refl d e gs hs k n a fits adds.moves adds.steady good;
}
  where
    side : (a : ℕ → Bool) (v : Value) (b : Bool)
        → value_at (values_of a e.nodes) (if b then left else right).number ≡ Some v
        → symbol_value a (values_of a e.nodes) (if b then symbol.Tree left else symbol.Tree right) ≡ Some v
    side a v true is = is
    side a v false is = is
