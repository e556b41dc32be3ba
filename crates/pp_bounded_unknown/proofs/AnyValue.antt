-- The whole answer of `unknown`.
use Rattle.std.proofs.Common.{◌≡◌, ℕ, ◌+◌, ◌*◌, ◌≤◌, ◌^◌, Bool, true, false, not, if◌then◌else◌, List, [], ◌∷◌, ◌++◌}
use Rattle.std.proofs.Common.{length, Some, None, refl, sym, ap, ◌∙◌, arith, slice_get}
use Rattle.std.proofs.lemmas.Bool.{both_ways, eq-eqb, ne_eqb}
use Rattle.pp_prog.specs.declared.id.DataId.{DataId}
use Rattle.pp_prog.specs.declared.sort.Sort.TheVariants as sort
use Rattle.pp_prog.specs.declared.types.TypeTable.{TypeTable}
use Rattle.pp_prog.specs.declared.value.Value.{Value}
use Rattle.pp_prog.specs.Sizes.{bits}
use Rattle.pp_prog.specs.Values.{height as value_height}
use Rattle.pp_clause.specs.Literal.{Literal, lit_value, opposite}
use Rattle.pp_gate.specs.declared.gate.Gate.{Gate}
use Rattle.pp_gate.specs.Circuit.{Gives, IsOf, StandsFor}
use Rattle.pp_gate.proofs.Agreement.{lit_agree}
use Rattle.pp_gate.proofs.Growing.{Grows_none}
use Rattle.pp_bits.proofs.Growing.{IsOf_negated}
use Rattle.pp_bits.proofs.Numbers.{lit_value_negated}
use Rattle.pp_gate.proofs.Places.{at_next}
use Rattle.pp_domain.specs.declared.symbol.Symbol.TheVariants as symbol
use Rattle.pp_domain.specs.Allowance.{unknown_gates}
use Rattle.pp_domain.specs.Answers.{IsUnknown}
use Rattle.pp_domain.specs.Moves.{Moves}
use Rattle.pp_domain.specs.Naming.{IsOfData}
use Rattle.pp_domain.proofs.Composition.{Moves_more, Moves_none}
use Rattle.pp_bounded_trees.specs.declared.arena.Trees.{Trees}
use Rattle.pp_bounded_trees.specs.declared.arena.BoundedTree.{BoundedTree}
use Rattle.pp_bounded_trees.specs.declared.arena.Node.{Node}
use Rattle.pp_bounded_unknown.specs.Full.{IsFull}
use Rattle.pp_bounded_trees.specs.Meaning.{BoundedFits, bounded_sense}
use Rattle.pp_bounded_trees.specs.Possible.{has_value}
use Rattle.pp_bounded_trees.specs.Values.{value_among, value_at, values_of}
use Rattle.pp_bounded_trees.proofs.Blank.{empty_fits, pushed_fits}
use Rattle.pp_bounded_trees.proofs.Candidates.{has_value_none, value_possible}
use Rattle.pp_bounded_trees.proofs.Lawful.{bounded_lawful}
use Rattle.pp_bounded_trees.proofs.Locality.{node_value}
use Rattle.pp_bounded_trees.proofs.Pushed.{Moves_pushed}

-- the allowance
pub unknown_none : (types : TypeTable) (of : DataId) (h : ℕ) → h ≡ 0 → unknown_gates bounded_sense types of h ≡ 0
unknown_none types of h none =
    ap (λ (b : Bool). if b then 0 else 4 * (32 + bits types h (sort.Tree of))) (eq-eqb h 0 none)

pub unknown_some : (types : TypeTable) (of : DataId) (h : ℕ) → (h ≡ 0 → ⊥)
    → unknown_gates bounded_sense types of h ≡ 4 * (32 + bits types h (sort.Tree of))
unknown_some types of h some =
    ap (λ (b : Bool). if b then 0 else 4 * (32 + bits types h (sort.Tree of))) (ne_eqb h 0 some)

pub not_none : (types : TypeTable) (of : DataId) (h : ℕ) → has_value types h (sort.Tree of) ≡ true → h ≡ 0 → ⊥
not_none types of h has none = both_ways _ (has_value_none types h of none) has

-- a tree that can have any value up to its height
pub full_unknown : (types : TypeTable) (d e : Trees) (gs hs : List Gate) (k h : ℕ) (of : DataId) (t : BoundedTree)
    → BoundedFits types d gs → has_value types h (sort.Tree of) ≡ true → Moves bounded_sense types d gs e hs k
    → e.ok ≡ d.ok → IsFull types gs e hs h (sort.Tree of) (symbol.Tree t)
    → IsUnknown bounded_sense types d gs e hs t of h
full_unknown types d e gs hs k h of t fits has moves ok full = record {
  node = full.of.0;
  data_of = full.of.1;
  height = full.height;
  chosen = λ n a v good sorts low any.
      let c = full.chosen a v good.gates (record { sort = sorts; most = low refl }) in (
        record {
          next = c.next;
          agree = c.keeps;
          good = record {
            gates = c.gives;
            ok = ap (lit_value c.next) ok ∙ sym (lit_agree (length gs) a c.next d.ok fits.ok_of c.keeps) ∙ good.ok;
            matches = tt;
            admitted = good.admitted;
          };
        },
        c.value,
      );
  bounded = λ exact some n a good.
      let b = full.bounded a good.gates in
      record { value = b.value; stands = b.stands; sort = b.up_to.sort; most = b.up_to.most };
  nothing = λ exact none. absurd (not_none types of h has none);
}

-- another condition, which no assignment meets that didn't meet the old one
pub Moves_ok : (types : TypeTable) (d : Trees) (gs : List Gate) (l : Literal) → BoundedFits types d gs → IsOf gs l
    → ((a : ℕ → Bool) → Gives a gs → lit_value a l ≡ true → lit_value a d.ok ≡ true)
    → Moves bounded_sense types d gs (record { nodes = d.nodes; ok = l }) gs 0
Moves_ok types d gs l fits of back = record {
  grows = Grows_none gs;
  fits = record { circuit = fits.circuit; ok_of = of; arena = fits.arena };
  nodes = λ t node. record { node = node; data_of = refl; height = refl; expanded = λ h. h };
  stands = λ n a b t v node agree.
      (Moves_none bounded_sense types bounded_lawful d gs fits).stands n a b t v node agree;
  back = λ n a good. record {
    gates = good.gates;
    ok = back a good.gates good.ok;
    matches = tt;
    admitted = good.admitted;
  };
}

-- a node without a constructor
module _ (types : TypeTable) (d e : Trees) (gs : List Gate) (of : DataId) (h : ℕ) (node : Node) (t : BoundedTree)
    (fits : BoundedFits types d gs) (without : has_value types h (sort.Tree of) ≡ false) (node_of : node.of ≡ of)
    (node_height : node.height ≡ h) (empty : node.alternatives ≡ []) (pushed : e.nodes ≡ d.nodes ++ node ∷ [])
    (number : t.number ≡ length d.nodes) (tree_of : t.of ≡ node.of) (tree_height : t.height ≡ node.height)
    (small : h ≤ 2 ^ 32) where
  abbrev before : Trees
  before = record { nodes = e.nodes; ok = d.ok }

  moves_before : Moves bounded_sense types d gs before gs 0
  moves_before = Moves_pushed types d before gs node fits pushed refl (empty_fits types gs d.nodes (length d.nodes)
      node empty)

  none : (a : ℕ → Bool) (v : Value) → value_at (values_of a e.nodes) t.number ≡ Some v → ⊥
  none a v is =
      let here = ap (λ ys. slice_get ys (length d.nodes)) pushed ∙ at_next d.nodes [] node in
      let no : None ≡ Some v =
      sym (ap (value_at (values_of a e.nodes)) number
      ∙ node_value a gs types e.nodes (length d.nodes) node moves_before.fits.arena here
      ∙ ap (value_among a (values_of a e.nodes)) empty) ∙ is in cc

  no_value : (v : Value) → IsOfData types of v
      → value_height v ≤ h → ⊥
  no_value v sorts low =
      both_ways _ without (value_possible types h (sort.Tree of) v (record { sort = sorts; most = low }))

  -- with the height 0
  pub nothing_moves : e.ok ≡ d.ok → Moves bounded_sense types d gs e gs 0
  nothing_moves ok =
      Moves_pushed types d e gs node fits pushed ok (empty_fits types gs d.nodes (length d.nodes) node empty)

  pub nothing_unknown : h ≡ 0 → e.ok ≡ d.ok → IsUnknown bounded_sense types d gs e gs t of h
  nothing_unknown zeroed ok = record {
    node = pushed_fits d.nodes e.nodes node t pushed number tree_of tree_height (omega arith);
    data_of = tree_of ∙ node_of;
    height = tree_height ∙ node_height;
    chosen = λ n a v good sorts low any. absurd (no_value v sorts (low refl));
    bounded = λ exact some n a good. absurd (omega arith);
    nothing = λ exact z. record {
      stands = λ n a v is. none a v is;
      steady = record { ok = ok; inputs = λ x is. is };
    };
  }

  -- where there is no value: no assignment is good
  module _ (truth : Literal) (is_true : StandsFor gs truth (λ s. true)) (ok : e.ok ≡ opposite truth) where
    false_ok : (a : ℕ → Bool) → Gives a gs → lit_value a e.ok ≡ true → ⊥
    false_ok a gives is =
        both_ways _ (lit_value_negated a e.ok truth ok ∙ ap not (is_true.value a gives)) is

    pub refused_moves : Moves bounded_sense types d gs e gs 0
    refused_moves =
        Moves_more bounded_sense types d before e gs gs gs 0 0 0 moves_before
        (Moves_ok types before gs e.ok moves_before.fits (IsOf_negated gs e.ok truth ok is_true.of)
        (λ a gives is. absurd (false_ok a gives is))) (omega arith)

    pub refused_unknown : (h ≡ 0 → ⊥) → IsUnknown bounded_sense types d gs e gs t of h
    refused_unknown some = record {
      node = pushed_fits d.nodes e.nodes node t pushed number tree_of tree_height (omega arith);
      data_of = tree_of ∙ node_of;
      height = tree_height ∙ node_height;
      chosen = λ n a v good sorts low any. absurd (no_value v sorts (low refl));
      bounded = λ exact pos n a good. absurd (false_ok a good.gates good.ok);
      nothing = λ exact z. absurd (some z);
    }
