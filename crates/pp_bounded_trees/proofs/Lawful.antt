-- The laws of the domain of bounded trees.
use Rattle.std.proofs.Common.{◌≡◌, ℕ, true, List, [], Some, refl, subst, slice_get}
use Rattle.pp_prog.specs.declared.types.TypeTable.{TypeTable}
use Rattle.pp_gate.specs.declared.gate.Gate.{Gate}
use Rattle.pp_gate.specs.Circuit.{IsOf, IsCircuit}
use Rattle.pp_domain.specs.Answers.{Fresh}
use Rattle.pp_domain.specs.Laws.{Lawful}
use Rattle.pp_bounded_trees.specs.declared.arena.Trees.{Trees}
use Rattle.pp_bounded_trees.specs.declared.arena.Node.{Node}
use Rattle.pp_bounded_trees.specs.Arena.{NodeFits}
use Rattle.pp_bounded_trees.specs.Laws.{bounded_laws}
use Rattle.pp_bounded_trees.specs.Meaning.{bounded_sense}

pub bounded_lawful : Lawful bounded_sense
bounded_lawful = bounded_laws

-- a domain without trees
pub bounded_fresh : (types : TypeTable) (d : Trees) (gs : List Gate) → IsCircuit gs → IsOf gs d.ok
    → d.ok ≡ record { var = 1; positive = true } → d.nodes ≡ [] → Fresh bounded_sense types d gs
bounded_fresh types d gs is of ok none = record {
  fits = record {
    circuit = is;
    ok_of = of;
    arena = record {
      each = λ k x at. no_node k x
          (subst (λ xs. slice_get xs k ≡ Some x) none at);
    };
  };
  empty = λ t node. no_tree t.number node.node (subst (λ xs. slice_get xs t.number ≡ Some node.node) none node.at);
  ok = ok;
  matches = λ a n reaches. tt;
  looks = refl;
  compares = refl;
}
  where
    no_tree : (k : ℕ) (x : Node) → slice_get [] k ≡ Some x → ⊥
    no_tree k x e = cc

    no_node : (k : ℕ) (x : Node) → slice_get [] k ≡ Some x → NodeFits gs d.nodes types k x
    no_node k x e = cc
