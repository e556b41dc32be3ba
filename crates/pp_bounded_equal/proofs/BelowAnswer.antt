-- The whole answer of `below`.
use Rattle.std.proofs.Common.{◌≡◌, ℕ, ◌+◌, ◌-◌, ◌*◌, ◌≤◌, List, ap, arith}
use Rattle.std.proofs.Math.Nat.{mul-le-mul_left, mul-le-mul_right}
use Rattle.pp_prog.specs.declared.sort.Sort.TheVariants as sort
use Rattle.pp_prog.specs.declared.types.TypeTable.{TypeTable}
use Rattle.pp_prog.specs.Sizes.{bits, nodes}
use Rattle.pp_clause.specs.Literal.{Literal}
use Rattle.pp_gate.specs.declared.gate.Gate.{Gate}
use Rattle.pp_gate.specs.Growth.{AddsGates}
use Rattle.pp_domain.specs.Allowance.{below_gates}
use Rattle.pp_domain.specs.Answers.{IsComparison}
use Rattle.pp_domain.proofs.Composition.{Extended_grown}
use Rattle.pp_bounded_trees.specs.declared.arena.Trees.{Trees}
use Rattle.pp_bounded_trees.specs.declared.arena.BoundedTree.{BoundedTree}
use Rattle.pp_bounded_equal.specs.Below.{IsBelowTest, tree_nodes, weight}
use Rattle.pp_bounded_trees.specs.Meaning.{BoundedFits, bounded_sense}
use Rattle.pp_bounded_trees.proofs.Lawful.{bounded_lawful}

then_less : (a b c : ℕ) → a ≤ b → b ≤ c → a ≤ c
then_less a b c p q = omega arith

-- the allowance
pub below_within : (types : TypeTable) (d : Trees) (new old : BoundedTree) → old.of ≡ new.of
    → weight types new * (tree_nodes types old - 1) ≤ below_gates bounded_sense types d new old
below_within types d new old same =
    let n = nodes types old.height (sort.Tree new.of) in
    let b = bits types new.height (sort.Tree new.of) in
    let e : tree_nodes types old ≡ n = ap (λ o. nodes types old.height (sort.Tree o)) same in
    let one = mul-le-mul_right (tree_nodes types old - 1) (heavier b) in
    let two = mul-le-mul_left (4 * (32 + b)) (fewer (tree_nodes types old) n e) in
    last (then_less _ _ _ one two)
  where
    heavier : (b : ℕ) → 4 * b + 3 ≤ 4 * (32 + b)
    heavier b = omega arith

    fewer : (m n : ℕ) → m ≡ n → m - 1 ≤ 1 + n
    fewer m n e = omega arith

    last : {a b : ℕ} → a ≤ b → a ≤ 64 + b + 0
    last le = omega (arith, le)

pub test_comparison : (types : TypeTable) (d : Trees) (gs hs : List Gate) (k : ℕ) (new old : BoundedTree)
    (l : Literal) → BoundedFits types d gs → AddsGates gs hs k → IsBelowTest d hs new old l
    → IsComparison bounded_sense types d gs d hs new old l
test_comparison types d gs hs k new old l fits adds test = record {
  of = test.of;
  sound = λ n a v w good one other is. (test.means a v w good.gates one other).0 is;
  exact = λ exact n a v w good one other is. (test.means a v w good.gates one other).1 is;
  extends = λ n a good any.
      Extended_grown bounded_sense types bounded_lawful d gs hs k n a a fits adds.grows adds.circuit good;
}
