-- Nodes without a constructor, and trees that name the last node.
use Rattle.std.proofs.Common.{◌≡◌, ℕ, ◌+◌, ◌≤◌, ◌^◌, List, [], ◌∷◌, ◌++◌, length, Some, sym, ap, ◌∙◌, subst, arith}
use Rattle.std.proofs.Common.{slice_get, inl, length-append}
use Rattle.std.proofs.lemmas.Option.{same_Some}
use Rattle.pp_prog.specs.declared.id.CtorId.{CtorId}
use Rattle.pp_prog.specs.declared.sort.Sort.{Sort}
use Rattle.pp_prog.specs.declared.types.Ctor.{Ctor}
use Rattle.pp_prog.specs.declared.types.TypeTable.{TypeTable}
use Rattle.pp_gate.specs.declared.gate.Gate.{Gate}
use Rattle.pp_gate.proofs.Places.{at_next}
use Rattle.pp_domain.specs.Answers.{HasField}
use Rattle.pp_domain.specs.Moves.{Moves, Steady}
use Rattle.pp_domain.proofs.Composition.{Moves_none}
use Rattle.pp_bounded_trees.specs.declared.arena.Alternative.{Alternative}
use Rattle.pp_bounded_trees.specs.declared.arena.Trees.{Trees}
use Rattle.pp_bounded_trees.specs.declared.arena.BoundedTree.{BoundedTree}
use Rattle.pp_bounded_trees.specs.declared.arena.Node.{Node}
use Rattle.pp_bounded_trees.specs.Arena.{NodeFits, TreeFits}
use Rattle.pp_bounded_trees.specs.Meaning.{BoundedFits, bounded_sense}
use Rattle.pp_bounded_trees.proofs.Lawful.{bounded_lawful}

pub empty_fits : (types : TypeTable) (gs : List Gate) (nodes : List Node) (k : ℕ) (x : Node) → x.alternatives ≡ []
    → NodeFits gs nodes types k x
empty_fits types gs nodes k x empty = record {
  each = λ j y at. absurd (none j y at);
  order = λ i j y z lt one other. absurd (none i y one);
  one = inl empty;
}
  where
    no_place : (j : ℕ) (y : Alternative) → slice_get [] j ≡ Some y → ⊥
    no_place j y e = cc

    none : (j : ℕ) (y : Alternative) → slice_get x.alternatives j ≡ Some y → ⊥
    none j y at = no_place j y (subst (λ (ys : List Alternative). slice_get ys j ≡ Some y) empty at)

pub pushed_fits : (nodes all : List Node) (x : Node) (t : BoundedTree) → all ≡ nodes ++ x ∷ []
    → t.number ≡ length nodes → t.of ≡ x.of → t.height ≡ x.height → x.height ≤ 2 ^ 32 + length nodes
    → TreeFits all (length all) t
pushed_fits nodes all x t is number of height most =
    let more : length all ≡ length nodes + 1 = ap length is ∙ length-append nodes (x ∷ []) in
    record {
      node = x;
      at = ap (λ k. slice_get all k) number ∙ ap (λ ys. slice_get ys (length nodes)) is ∙ at_next nodes [] x;
      before = omega arith;
      data_of = sym of;
      height = omega arith;
      most = omega arith;
    }

-- a field has one sort
pub field_sort_same : (types : TypeTable) (c : CtorId) (i : ℕ) (r s : Sort) → HasField types c i r → HasField types
    c i s
    → r ≡ s
field_sort_same types c i r s one other =
    let same : one.0 ≡ other.0 = same_Some one.0 other.0 (sym one.1 ∙ other.1) in
    same_Some r s (sym one.2 ∙ ap (λ (k : Ctor). slice_get k.fields i) same ∙ other.2)

-- a circuit that is the same
pub Moves_unmoved : (types : TypeTable) (d : Trees) (gs hs : List Gate) → BoundedFits types d gs → hs ≡ gs
    → Moves bounded_sense types d gs d hs 0
Moves_unmoved types d gs hs fits same =
    subst (λ (fs : List Gate). Moves bounded_sense types d gs d fs 0) (sym same)
    (Moves_none bounded_sense types bounded_lawful d gs fits)

pub Steady_unmoved : (d e : Trees) (gs hs : List Gate) → e.ok ≡ d.ok → hs ≡ gs → Steady bounded_sense d gs e hs
Steady_unmoved d e gs hs ok same =
    subst (λ (fs : List Gate). Steady bounded_sense d gs e fs) (sym same) (record { ok = ok; inputs = λ x is. is })
