-- Calls that add gates and nodes: none, one after another, gates alone, a node.
use Rattle.std.proofs.Common.{◌≡◌, ℕ, zero, suc, ◌+◌, ◌≤◌, List, [], ◌∷◌, ◌++◌, length, refl, sym, ◌∙◌, subst, arith}
use Rattle.pp_prog.specs.declared.sort.Sort.{Sort}
use Rattle.pp_prog.specs.declared.sort.Sort.TheVariants as sort
use Rattle.pp_prog.specs.declared.types.TypeTable.{TypeTable}
use Rattle.pp_prog.specs.Sizes.{bits, ctors_of, fields_of}
use Rattle.pp_gate.specs.declared.gate.Gate.{Gate}
use Rattle.pp_gate.specs.Growth.{AddsGates}
use Rattle.pp_domain.specs.Moves.{Steady}
use Rattle.pp_domain.proofs.AnySort.{Moves_gates, Steady_gates}
use Rattle.pp_domain.proofs.Composition.{Moves_more, Moves_none, Moves_weaker}
use Rattle.pp_bounded_trees.specs.declared.arena.Trees.{Trees}
use Rattle.pp_bounded_trees.specs.declared.arena.Node.{Node}
use Rattle.pp_bounded_trees.specs.Arena.{NodeFits}
use Rattle.pp_bounded_trees.specs.Possible.{total}
use Rattle.pp_bounded_trees.specs.Meaning.{BoundedFits, bounded_sense}
use Rattle.pp_bounded_merge.specs.Merge.{Adds}
use Rattle.pp_bounded_trees.proofs.Candidates.{total_sum}
use Rattle.pp_bounded_trees.proofs.Lawful.{bounded_lawful}
use Rattle.pp_bounded_trees.proofs.Pushed.{Moves_pushed}
use Rattle.pp_list.proofs.Numbers.{less_one, none_below}

pub Steady_more : (c d e : Trees) (fs gs hs : List Gate) → Steady bounded_sense c fs d gs
    → Steady bounded_sense d gs e hs → Steady bounded_sense c fs e hs
Steady_more c d e fs gs hs a b = record {
  ok = b.ok ∙ a.ok;
  inputs = λ x is. a.inputs x (b.inputs x is);
}

module _ (types : TypeTable) where
  pub Adds_none : (d : Trees) (gs : List Gate) (n : ℕ) → BoundedFits types d gs → Adds types d gs d gs n
  Adds_none d gs n fits = record {
    moves =
        Moves_weaker bounded_sense types d d gs gs 0 n (Moves_none bounded_sense types bounded_lawful d gs fits)
        (omega arith);
    steady = record { ok = refl; inputs = λ x is. is };
  }

  pub Adds_weaker : (d e : Trees) (gs hs : List Gate) (m n : ℕ) → Adds types d gs e hs m → m ≤ n
      → Adds types d gs e hs n
  Adds_weaker d e gs hs m n a le =
      record { moves = Moves_weaker bounded_sense types d e gs hs m n a.moves le; steady = a.steady }

  pub Adds_more : (c d e : Trees) (fs gs hs : List Gate) (m n k : ℕ) → Adds types c fs d gs m → Adds types d gs e hs n
      → m + n ≤ k → Adds types c fs e hs k
  Adds_more c d e fs gs hs m n k a b le = record {
    moves = Moves_more bounded_sense types c d e fs gs hs m n k a.moves b.moves le;
    steady = Steady_more c d e fs gs hs a.steady b.steady;
  }

  pub Adds_gates : (d : Trees) (gs hs : List Gate) (n : ℕ) → BoundedFits types d gs → AddsGates gs hs n
      → Adds types d gs d hs n
  Adds_gates d gs hs n fits adds = record {
    moves = Moves_gates bounded_sense types bounded_lawful d gs hs n fits adds;
    steady = Steady_gates bounded_sense types bounded_lawful d gs hs n adds;
  }

  pub Adds_pushed : (d e : Trees) (gs : List Gate) (x : Node) → BoundedFits types d gs → e.nodes ≡ d.nodes ++ x ∷ []
      → e.ok ≡ d.ok → NodeFits gs d.nodes types (length d.nodes) x → Adds types d gs e gs 0
  Adds_pushed d e gs x fits pushed ok own = record {
    moves = Moves_pushed types d e gs x fits pushed ok own;
    steady = record { ok = ok; inputs = λ y is. is };
  }

  -- an arena that is the same
  pub Adds_same : (d e : Trees) (gs : List Gate) (n : ℕ) → BoundedFits types d gs → e.nodes ≡ d.nodes → e.ok ≡ d.ok
      → Adds types d gs e gs n
  Adds_same d e gs n fits nodes ok =
      let own : d ≡ e = λ i. record { nodes = sym nodes i; ok = sym ok i } in
      subst (λ (f : Trees). Adds types d gs f gs n) own (Adds_none d gs n fits)

-- the bits grow with the height
pub total_grow : {X : Type 0} (f g : X → ℕ) (xs : List X) → ((x : X) → f x ≤ g x) → total f xs ≤ total g xs
total_grow f g [] le = omega arith
total_grow f g (x ∷ xs) le = let one = le x in let rest = total_grow f g xs le in omega arith

same : (n : ℕ) → n ≤ n
same n = omega arith

-- a sum of two grows with its second part
pub plus_grow : (c a b m n : ℕ) → a ≡ m → b ≡ n → m ≤ n → c + a ≤ c + b
plus_grow c a b m n e f le = omega arith

pub bits_grow : (types : TypeTable) (h k : ℕ) (s : Sort) → h ≤ k → bits types h s ≤ bits types k s
bits_grow types zero zero s le = same (bits types zero s)
bits_grow types zero (suc k) sort.Int le = same 32
bits_grow types zero (suc k) sort.Bool le = same 1
bits_grow types zero (suc k) (sort.Tree d) le = none_below _
bits_grow types (suc h) zero s le = absurd (omega arith)
bits_grow types (suc h) (suc k) sort.Int le = same 32
bits_grow types (suc h) (suc k) sort.Bool le = same 1
bits_grow types (suc h) (suc k) (sort.Tree d) le =
    plus_grow (length (ctors_of types d)) _ _ _ _ (total_sum (bits types h) (fields_of types d))
    (total_sum (bits types k) (fields_of types d))
    (total_grow (bits types h) (bits types k) (fields_of types d) (λ s. bits_grow types h k s (less_one h k le)))
