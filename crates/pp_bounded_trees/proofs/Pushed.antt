-- A node at the end of the arena: what it leaves.
use Rattle.std.proofs.Common.{◌≡◌, ℕ, ◌<◌, ◌≤◌, Bool, List, [], ◌∷◌, ◌++◌, length, refl, sym, ap, ◌∙◌, subst, arith}
use Rattle.std.proofs.Common.{slice_get, inl, inr, length-append}
use Rattle.pp_prog.specs.declared.sort.Sort.{Sort}
use Rattle.pp_prog.specs.declared.sort.Sort.TheVariants as sort
use Rattle.pp_prog.specs.declared.types.TypeTable.{TypeTable}
use Rattle.pp_gate.specs.declared.gate.Gate.{Gate}
use Rattle.pp_clause.specs.Literal.{lit_value}
use Rattle.pp_gate.specs.Circuit.{IsOf}
use Rattle.pp_gate.proofs.Growing.{Grows_none}
use Rattle.pp_gate.proofs.Places.{at_left, at_push}
use Rattle.pp_domain.specs.declared.symbol.Symbol.{Symbol}
use Rattle.pp_domain.specs.declared.symbol.Symbol.TheVariants as symbol
use Rattle.pp_domain.specs.Moves.{Moves}
use Rattle.pp_bounded_trees.specs.declared.arena.Trees.{Trees}
use Rattle.pp_bounded_trees.specs.declared.arena.BoundedTree.{BoundedTree}
use Rattle.pp_bounded_trees.specs.declared.arena.Node.{Node}
use Rattle.pp_bounded_trees.specs.Arena.{ArenaFits, FieldFits, FieldsFit, NodeFits, TreeFits}
use Rattle.pp_bounded_trees.specs.Meaning.{BoundedFits, bounded_sense}
use Rattle.pp_bounded_trees.specs.Values.{value_among, value_at, values_of}
use Rattle.pp_bounded_trees.specs.Agreement.{values_agree}
use Rattle.pp_bounded_trees.proofs.Values.{value_at_left, values_length, values_push}

module _ (nodes all : List Node) (x : Node) (is : all ≡ nodes ++ x ∷ []) where
  longer : length nodes ≤ length all
  longer = let e = ap length is ∙ length-append nodes (x ∷ []) in omega arith

  pub tree_later : (k m : ℕ) (t : BoundedTree) → k ≤ m → TreeFits nodes k t → TreeFits all m t
  tree_later k m t le fits = record {
    node = fits.node;
    at = ap (λ l. slice_get l t.number) is ∙ at_left nodes (x ∷ []) t.number fits.node fits.at;
    before = let h = fits.before in omega arith;
    data_of = fits.data_of;
    height = fits.height;
    most = let h = fits.most in let l = longer in omega arith;
  }

  module _ (gs : List Gate) where
    field_pushed : (k h : ℕ) (s : Sort) (y : Symbol BoundedTree) → FieldFits gs nodes k h s y → FieldFits gs all k h s y
    field_pushed k h sort.Int (symbol.Word w) fits = fits
    field_pushed k h sort.Bool (symbol.Bit l) fits = fits
    field_pushed k h (sort.Tree of) (symbol.Tree t) fits = (tree_later k k t (omega arith) fits.0, fits.1, fits.2)
    field_pushed k h sort.Int (symbol.Bit l) fits = absurd fits
    field_pushed k h sort.Int (symbol.Tree t) fits = absurd fits
    field_pushed k h sort.Bool (symbol.Word w) fits = absurd fits
    field_pushed k h sort.Bool (symbol.Tree t) fits = absurd fits
    field_pushed k h (sort.Tree of) (symbol.Word w) fits = absurd fits
    field_pushed k h (sort.Tree of) (symbol.Bit l) fits = absurd fits

    fields_pushed : (k h : ℕ) (ss : List Sort) (ys : List (Symbol BoundedTree)) → FieldsFit gs nodes k h ss ys
        → FieldsFit gs all k h ss ys
    fields_pushed k h [] [] fits = tt
    fields_pushed k h (s ∷ ss) (y ∷ ys) fits = (field_pushed k h s y fits.0, fields_pushed k h ss ys fits.1)
    fields_pushed k h [] (y ∷ ys) fits = absurd fits
    fields_pushed k h (s ∷ ss) [] fits = absurd fits

    pub node_pushed : (types : TypeTable) (k : ℕ) (y : Node) → NodeFits gs nodes types k y → NodeFits gs all types k y
    node_pushed types k y fits = record {
      each = λ j z at.
          let own = fits.each j z at in record {
            low = own.low;
            lit_of = own.lit_of;
            entry = own.entry;
            at = own.at;
            data_of = own.data_of;
            fields = fields_pushed k y.height own.entry.fields z.fields own.fields;
          };
      order = fits.order;
      one = fits.one;
    }

    pub arena_pushed : (types : TypeTable) → ArenaFits types gs nodes → NodeFits gs nodes types (length nodes) x
        → ArenaFits types gs all
    arena_pushed types fits own = record {
      each = λ k y at.
          elim (at_push nodes x k y (ap (λ l. slice_get l k) (sym is) ∙ at)) [
            | inl old ↦ node_pushed types k y (fits.each k y old)
            | inr new ↦ subst (λ (z : Node). NodeFits gs all types k z) new.1
                (subst (λ n. NodeFits gs all types n x) (sym new.0) (node_pushed types (length nodes) x own))
          ];
    }

  pub value_pushed : (a : ℕ → Bool) (k : ℕ) → k < length nodes
      → value_at (values_of a all) k ≡ value_at (values_of a nodes) k
  value_pushed a k lt =
      let e = values_length a [] nodes in
      ap (λ l. value_at (values_of a l) k) is
      ∙ ap (λ os. value_at os k) (values_push a [] nodes x)
      ∙ value_at_left (values_of a nodes) (value_among a (values_of a nodes) x.alternatives ∷ []) k (omega arith)

-- the node leaves no gate, and old trees stand for what they stood for
pub Moves_pushed : (types : TypeTable) (d e : Trees) (gs : List Gate) (x : Node) → BoundedFits types d gs
    → e.nodes ≡ d.nodes ++ x ∷ [] → e.ok ≡ d.ok → NodeFits gs d.nodes types (length d.nodes) x
    → Moves bounded_sense types d gs e gs 0
Moves_pushed types d e gs x fits is ok own = record {
  grows = Grows_none gs;
  fits = record {
    circuit = fits.circuit;
    ok_of = subst (λ l. IsOf gs l) (sym ok) fits.ok_of;
    arena = arena_pushed d.nodes e.nodes x is gs types fits.arena own;
  };
  nodes = λ t node. record {
    node = tree_later d.nodes e.nodes x is (length d.nodes) (length e.nodes) t (longer d.nodes e.nodes x is) node;
    data_of = refl;
    height = refl;
    expanded = λ h. h;
  };
  stands = λ n a b t v node agree.
      let same : value_at (values_of b e.nodes) t.number ≡ value_at (values_of a d.nodes) t.number =
      value_pushed d.nodes e.nodes x is b t.number node.before
      ∙ ap (λ os. value_at os t.number) (sym (values_agree gs a b agree types d.nodes fits.arena)) in
      (λ h. same ∙ h, λ h. sym same ∙ h);
  back = λ n a good. record {
    gates = good.gates;
    ok = ap (λ l. lit_value a l) (sym ok) ∙ good.ok;
    matches = tt;
    admitted = good.admitted;
  };
}
