-- Each call of the domain keeps trees and literals.
use Rattle.std.proofs.Common.{◌≡◌, ℕ, ◌+◌, ◌*◌, ◌≤◌, ◌^◌, max, min, Bool, true, false, if◌then◌else◌, List, []}
use Rattle.std.proofs.Common.{refl, sym, ap, ◌∙◌, subst, arith}
use Rattle.std.proofs.Math.Nat.{mul-le-mul_left, mul-le-mul_right}
use Rattle.pp_prog.specs.declared.id.DataId.{DataId}
use Rattle.pp_prog.specs.declared.sort.Sort.TheVariants as sort
use Rattle.pp_prog.specs.declared.types.TypeTable.{TypeTable}
use Rattle.pp_prog.specs.declared.value.Value.{Value}
use Rattle.pp_prog.specs.Sizes.{bits, nodes}
use Rattle.pp_clause.specs.Literal.{Literal, lit_value}
use Rattle.pp_gate.specs.declared.gate.Gate.{Gate}
use Rattle.pp_gate.proofs.Growing.{IsOf_more}
use Rattle.pp_domain.specs.declared.symbol.Symbol.TheVariants as symbol
use Rattle.pp_domain.specs.Allowance.{below_gates, equal_gates, merge_gates, unknown_gates}
use Rattle.pp_domain.specs.Answers.{AreOfOneData, IsMerge, IsUnknown}
use Rattle.pp_domain.specs.Moves.{Moves}
use Rattle.pp_domain.specs.Naming.{IsOfData, Naming}
use Rattle.pp_domain.specs.Sense.{Good}
use Rattle.pp_bounded_trees.specs.declared.arena.BoundedTree.{BoundedTree}
use Rattle.pp_bounded_trees.specs.declared.arena.Trees.{Trees}
use Rattle.pp_bounded_trees.specs.Laws.{bounded_laws}
use Rattle.pp_bounded_trees.specs.Meaning.{bounded_sense}
use Rattle.pp_bounded_trees.specs.Readable.{IsReadable}
use Rattle.pp_bounded_samples.specs.declared.pair.TreePair.{TreePair}
use Rattle.pp_bounded_samples.specs.Kept.{CanRead, Goes, KeepsPair, Kept}
use Rattle.pp_bounded_samples.specs.Sample.{IsSmall}

module _ (types : TypeTable) (d e : Trees) (gs hs : List Gate) (k : ℕ)
    (moves : Moves bounded_sense types d gs e hs k) where
  kept_later : (t : BoundedTree) → Kept types d gs t → Kept types e hs t
  kept_later t kept = record {
    node = (moves.nodes t kept.node).node;
    small = kept.small;
    stands = λ n a good.
        let some = kept.stands n a (moves.back n a good) in record {
          value = some.value;
          stands = (moves.stands n a a t some.value kept.node (record { agree = λ x low high. refl })).0 some.stands;
          sort = some.sort;
        };
  }

  pub goes : Goes types d gs e hs
  goes = record {
    fits = moves.fits;
    kept = kept_later;
    pairs = λ p keeps. record {
      fits = moves.fits;
      left = kept_later p.left keeps.left;
      right = kept_later p.right keeps.right;
      of = keeps.of;
      height = keeps.height;
    };
    nodes = λ t node. (moves.nodes t node).node;
    literals = λ l of. IsOf_more gs hs k l moves.grows of;
  }

few_either : (b : Bool) (x n : ℕ) → x ≤ n → (if b then 0 else x) ≤ n
few_either true x n le = omega arith
few_either false x n le = le

max_same : (n : ℕ) → max n n ≡ n
max_same n = omega arith

min_same : (n : ℕ) → min n n ≡ n
min_same n = omega arith

pub unknown_few : (types : TypeTable) (of : DataId) (h : ℕ) → IsSmall types of h
    → unknown_gates bounded_sense types of h ≤ 2 ^ 28
unknown_few types of h small =
    few_either _ (4 * (32 + bits types h (sort.Tree of))) (2 ^ 28) (omega (arith, small.bits))

module _ (types : TypeTable) (d : Trees) (gs : List Gate) (p : TreePair) (pair : KeepsPair types d gs p) where
  small : IsSmall types p.left.of p.left.height
  small = pair.left.small

  pub equal_few : equal_gates bounded_sense types d p.left p.right ≤ 2 ^ 28
  equal_few =
      let e : min p.left.height p.right.height ≡ p.left.height =
      ap (min p.left.height) pair.height ∙ min_same p.left.height in
      subst (λ (h : ℕ). 4 * (32 + bits types h (sort.Tree p.left.of)) ≤ 2 ^ 28) (sym e) (omega (arith, small.bits))

  pub merge_few : merge_gates bounded_sense types d p.left p.right ≤ 2 ^ 28
  merge_few =
      let e : max p.left.height p.right.height ≡ p.left.height =
      ap (max p.left.height) pair.height ∙ max_same p.left.height in
      subst (λ (h : ℕ). 32 + bits types h (sort.Tree p.left.of) ≤ 2 ^ 28) (sym e) (omega (arith, small.bits))

  pub below_few : below_gates bounded_sense types d p.left p.right ≤ 2 ^ 28
  below_few =
      let b = 4 * (32 + bits types p.left.height (sort.Tree p.left.of)) in
      let n = 1 + nodes types p.left.height (sort.Tree p.left.of) in
      let few : b ≤ 22528 = omega (arith, small.bits) in
      let low : n ≤ 201 = omega (arith, small.nodes) in
      let one : b * n ≤ 22528 * n = mul-le-mul_right n few in
      let two : 22528 * n ≤ 22528 * 201 = mul-le-mul_left 22528 low in
      subst (λ (h : ℕ). 64 + b * (1 + nodes types h (sort.Tree p.left.of)) + 0 ≤ 2 ^ 28) (sym pair.height)
      (omega (arith, one, two))

  pub one_data : AreOfOneData bounded_sense types d p.left p.right
  one_data = record { left_kept = pair.left.node; right_kept = pair.right.node; same = pair.of }

small_same : (types : TypeTable) (c d : DataId) (h k : ℕ) → IsSmall types c h → d ≡ c → k ≡ h → IsSmall types d k
small_same types c d h k small e f =
    subst (λ (x : DataId). IsSmall types x k) (sym e) (subst (λ (x : ℕ). IsSmall types c x) (sym f) small)

pub unknown_kept : (types : TypeTable) (d e : Trees) (gs hs : List Gate) (t : BoundedTree) (of : DataId) (h : ℕ)
    → 1 ≤ h → IsSmall types of h → IsUnknown bounded_sense types d gs e hs t of h → Kept types e hs t
unknown_kept types d e gs hs t of h some small is = record {
  node = is.node;
  small = small_same types of t.of h t.height small is.data_of is.height;
  stands = λ n a good.
      let own = is.bounded refl some n a good in record {
        value = own.value;
        stands = own.stands;
        sort = subst (λ (c : DataId). IsOfData types c own.value) (sym is.data_of) own.sort;
      };
}

module _ (types : TypeTable) (d e : Trees) (gs hs : List Gate) (k : ℕ) (choice : Literal) (p : TreePair)
    (t : BoundedTree) (moves : Moves bounded_sense types d gs e hs k) (pair : KeepsPair types d gs p)
    (is : IsMerge bounded_sense types d gs e hs choice p.left p.right t) where
  -- the value of the chosen tree
  pub record Picked (s : ℕ → Bool) (n : Naming) (x : Bool) : Type 0 where
    pub value : Value
    pub stands : bounded_sense.Stands e s n (if x then p.left else p.right) value
    pub sort : IsOfData types p.left.of value

  picked : (s : ℕ → Bool) (n : Naming) → Good bounded_sense types e hs n s → (x : Bool) → Picked s n x
  picked s n good true =
      let own = ((goes types d e gs hs k moves).kept p.left pair.left).stands n s good in
      record { value = own.value; stands = own.stands; sort = own.sort }
  picked s n good false =
      let own = ((goes types d e gs hs k moves).kept p.right pair.right).stands n s good in
      record {
        value = own.value;
        stands = own.stands;
        sort = subst (λ (c : DataId). IsOfData types c own.value) pair.of own.sort;
      }

  pub merge_kept : Kept types e hs t
  merge_kept = record {
    node = is.node;
    small = small_same types p.left.of t.of p.left.height t.height pair.left.small is.data_of
        (is.height ∙ ap (max p.left.height) pair.height ∙ max_same p.left.height);
    stands = λ n s good.
        let own = picked s n good (lit_value s choice) in record {
          value = own.value;
          stands = is.means n s own.value good own.stands;
          sort = subst (λ (c : DataId). IsOfData types c own.value) (sym is.data_of) own.sort;
        };
  }

-- a kept tree can be read
pub kept_readable : (types : TypeTable) (d : Trees) (gs : List Gate) (a : ℕ → Bool) (t : BoundedTree)
    → CanRead types d gs a t → lit_value a d.ok ≡ true → IsReadable types d a (symbol.Tree t)
kept_readable types d gs a t can ok =
    let admitted = bounded_laws.names types d gs can.fits [] (omega arith) in
    let own = can.kept.stands admitted.naming a (record {
      gates = can.gives;
      ok = ok;
      matches = tt;
      admitted = admitted.admitted;
    }) in record {
      gates = gs;
      fits = can.fits;
      gives = can.gives;
      sort = sort.Tree t.of;
      of = (can.kept.node, refl);
      value = own.value;
      stands = own.stands;
    }
