-- What the literal of a constructor in a node means.
use Rattle.std.proofs.Common.{◌≡◌, ℕ, Bool, true, List, [], length, Some, refl, sym, ap, ◌∙◌, subst, arith, slice_get}
use Rattle.std.proofs.Common.{get_or, inl, inr}
use Rattle.std.proofs.lemmas.Bool.{both_ways, cases_lt, cases_order}
use Rattle.std.proofs.lemmas.Option.{get_or_from_slice_get, slice_get_within}
use Rattle.pp_prog.specs.declared.id.CtorId.{CtorId}
use Rattle.pp_prog.specs.declared.types.TypeTable.{TypeTable}
use Rattle.pp_prog.specs.declared.value.Value.{Value}
use Rattle.pp_prog.specs.declared.value.Value.TheVariants.{Tree}
use Rattle.pp_prog.proofs.Values.{ctor_same, same_ctor}
use Rattle.pp_clause.specs.Literal.{Literal, lit_value}
use Rattle.pp_gate.specs.declared.gate.Gate.{Gate}
use Rattle.pp_gate.specs.Circuit.{Gives}
use Rattle.pp_gate.proofs.Places.{at_some}
use Rattle.pp_domain.specs.Answers.{IsCtorTest}
use Rattle.pp_domain.specs.Naming.{HasCtor}
use Rattle.pp_domain.proofs.Composition.{Extended_none}
use Rattle.pp_bounded_trees.specs.declared.arena.Alternative.{Alternative}
use Rattle.pp_bounded_trees.specs.declared.arena.Trees.{Trees}
use Rattle.pp_bounded_trees.specs.declared.arena.BoundedTree.{BoundedTree}
use Rattle.pp_bounded_trees.specs.declared.arena.Node.{Node}
use Rattle.pp_bounded_trees.specs.Alternatives.{IsLiteralAt, IsOwn, IsPlaceOf}
use Rattle.pp_bounded_trees.specs.Arena.{NodeFits, TreeFits, true_among}
use Rattle.pp_bounded_trees.specs.Meaning.{BoundedFits, bounded_sense}
use Rattle.pp_bounded_trees.specs.Values.{value_at, values_of}
use Rattle.pp_bounded_trees.proofs.Alternatives.{own_of, true_once}
use Rattle.pp_bounded_trees.proofs.Locality.{node_value}

-- the constructors of the node that is read are those of the tree's node
pub read_alternatives : (nodes read : List Node) (xs : List Alternative) (k : ℕ) (x y : Node) → read ≡ nodes
    → xs ≡ (get_or read k x).alternatives → slice_get nodes k ≡ Some y → xs ≡ y.alternatives
read_alternatives nodes read xs k x y same all at =
    let own : get_or read k x ≡ y = get_or_from_slice_get read k y x (ap (λ l. slice_get l k) same ∙ at) in
    all ∙ ap (λ (z : Node). z.alternatives) own

-- a node that isn't empty has exactly one true literal
pub one_true : (types : TypeTable) (gs : List Gate) (nodes : List Node) (k : ℕ) (x : Node) (a : ℕ
    → Bool) (j : ℕ) (y : Alternative)
    → NodeFits gs nodes types k x → Gives a gs → slice_get x.alternatives j ≡ Some y → true_among a x.alternatives ≡ 1
one_true types gs nodes k x a j y fits gives at = elim fits.one [
  | inl e ↦ none (subst (λ (xs : List Alternative). slice_get xs j ≡ Some y) e at)
  | inr e ↦ e a gives
]
  where
    none : slice_get [] j ≡ Some y → true_among a x.alternatives ≡ 1
    none e = cc

-- the constructor of a number stands at one place
one_place : (types : TypeTable) (gs : List Gate) (nodes : List Node) (k : ℕ) (x : Node) (i j : ℕ) (y z : Alternative)
    → NodeFits gs nodes types k x → slice_get x.alternatives i ≡ Some y → slice_get x.alternatives j ≡ Some z
    → y.ctor.0 ≡ z.ctor.0 → i ≡ j
one_place types gs nodes k x i j y z fits one other same = elim (cases_order i j) [
  | inl e ↦ e
  | inr o ↦ elim o [
    | inl less ↦ let h = fits.order i j y z less one other in absurd (omega arith)
    | inr more ↦ let h = fits.order j i z y more other one in absurd (omega arith)
  ]
]

module _ (types : TypeTable) (d : Trees) (gs : List Gate) (t : BoundedTree) (c : CtorId) (p : ℕ) (l : Literal)
    (fits : BoundedFits types d gs) (tree : TreeFits d.nodes (length d.nodes) t)
    (place : IsPlaceOf c.0 tree.node.alternatives p) (lit : IsLiteralAt gs tree.node.alternatives p l) where
  own : (a : ℕ → Bool) (v : Value) → value_at (values_of a d.nodes) t.number ≡ Some v
      → IsOwn a (values_of a d.nodes) tree.node.alternatives v
  own a v is = own_of a (values_of a d.nodes) tree.node.alternatives v
      (sym (node_value a gs types d.nodes t.number tree.node fits.arena tree.at) ∙ is)

  has_ctor : (a : ℕ → Bool) (v : Value) → Gives a gs → IsOwn a (values_of a d.nodes) tree.node.alternatives v
      → lit_value a l ≡ true → HasCtor c v
  has_ctor a v gives o is = elim (cases_lt p (length tree.node.alternatives)) [
    | inr past ↦ absurd (both_ways (lit_value a l) (lit.absent past a gives) is)
    | inl within ↦
        let y = at_some tree.node.alternatives p within in
        let same : p ≡ o.place = true_once a tree.node.alternatives p o.place y.0 o.own
        (one_true types gs d.nodes t.number tree.node a p y.0 (fits.arena.each t.number tree.node tree.at)
        gives y.1) y.1
        (subst (λ (m : Literal). lit_value a m ≡ true) (lit.there y.0 y.1) is) o.at o.is_true in
        let number : o.own.ctor.0 ≡ c.0 = place.here o.own (ap (λ k. slice_get tree.node.alternatives k) same ∙ o.at) in
        (o.fields, o.value ∙ ap (λ (e : CtorId). Tree e o.fields) (ctor_same o.own.ctor c number))
  ]

  is_own : (a : ℕ → Bool) (v : Value) → IsOwn a (values_of a d.nodes) tree.node.alternatives v → HasCtor c v
      → lit_value a l ≡ true
  is_own a v o has =
      let same : o.own.ctor ≡ c = same_ctor o.own.ctor c o.fields has.0 (sym o.value ∙ has.1) in
      let number : o.own.ctor.0 ≡ c.0 = ap (λ (e : CtorId). e.0) same in
      let within = slice_get_within tree.node.alternatives o.place o.own o.at in
      elim (cases_lt o.place p) [
        | inl before ↦ absurd (place.before o.place o.own before o.at number)
        | inr after ↦
            let y = at_some tree.node.alternatives p (omega arith) in
            let there : p ≡ o.place = one_place types gs d.nodes t.number tree.node p o.place y.0 o.own
            (fits.arena.each t.number tree.node tree.at) y.1 o.at
            (place.here y.0 y.1 ∙ sym number) in
            let read : l ≡ o.own.lit = lit.there o.own (ap (λ k. slice_get tree.node.alternatives k) there ∙ o.at) in
            subst (λ (m : Literal). lit_value a m ≡ true) (sym read) o.is_true
      ]

  pub ctor_test : IsCtorTest bounded_sense types d gs d gs t c l
  ctor_test = record {
    of = lit.of;
    looks = record { expanded = tt; once = inl (record { looks = refl; compares = refl }, refl) };
    means = λ n a v good is. let o = own a v is in (has_ctor a v good.gates o, is_own a v o);
    extends = λ n a good any. Extended_none bounded_sense types d gs n a good;
  }
