-- A node of the possible constructors can have any value up to its height.
use Rattle.std.proofs.Common.{◌≡◌, ℕ, suc, ◌≤◌, ◌^◌, Bool, true, List, [], ◌∷◌, ◌++◌, length, Some, refl, sym, ap, ◌∙◌}
use Rattle.std.proofs.Common.{subst, arith, slice_get, inr}
use Rattle.std.proofs.lemmas.Option.{same_Some, slice_get_within}
use Rattle.pp_prog.specs.declared.id.CtorId.{CtorId}
use Rattle.pp_prog.specs.declared.id.DataId.{DataId}
use Rattle.pp_prog.specs.declared.sort.Sort.TheVariants as sort
use Rattle.pp_prog.specs.declared.types.Ctor.{Ctor}
use Rattle.pp_prog.specs.declared.types.TypeTable.{TypeTable}
use Rattle.pp_prog.specs.declared.value.Value.{Value}
use Rattle.pp_prog.specs.declared.value.Value.TheVariants as value
use Rattle.pp_prog.specs.Values.{greatest}
use Rattle.pp_clause.specs.Literal.{Literal, lit_value}
use Rattle.pp_gate.specs.declared.gate.Gate.{Gate}
use Rattle.pp_gate.specs.Circuit.{Gives}
use Rattle.pp_gate.specs.Growth.{Grows}
use Rattle.pp_gate.proofs.Agreement.{Gives_old, agree_along, lit_agree}
use Rattle.pp_gate.proofs.Growing.{IsOf_more, length-Grows}
use Rattle.pp_gate.proofs.Places.{at_next, at_some}
use Rattle.pp_bits.specs.Number.{lit_bit}
use Rattle.pp_domain.specs.declared.symbol.Symbol.TheVariants as symbol
use Rattle.pp_domain.specs.Moves.{Moves}
use Rattle.pp_domain.proofs.Composition.{agree_self}
use Rattle.pp_bounded_trees.specs.declared.arena.Alternative.{Alternative}
use Rattle.pp_bounded_trees.specs.declared.arena.Trees.{Trees}
use Rattle.pp_bounded_trees.specs.declared.arena.BoundedTree.{BoundedTree}
use Rattle.pp_bounded_trees.specs.declared.arena.Node.{Node}
use Rattle.pp_bounded_trees.specs.Arena.{NodeFits, true_among}
use Rattle.pp_bounded_trees.specs.Choices.{AreChoices, true_in}
use Rattle.pp_bounded_unknown.specs.Full.{AreFullAlternatives, ChosenValue, HasValueUpTo, IsFull}
use Rattle.pp_bounded_trees.specs.Possible.{ArePossible, AreValuesUpTo, IsValueUpTo}
use Rattle.pp_bounded_trees.specs.Meaning.{bounded_sense}
use Rattle.pp_bounded_trees.specs.Values.{built, field_values, value_among, value_at, values_of}
use Rattle.pp_bounded_trees.proofs.Alternatives.{true_one, among_own}
use Rattle.pp_bounded_trees.proofs.Blank.{pushed_fits}
use Rattle.pp_bounded_trees.proofs.Candidates.{fields_possible}
use Rattle.pp_bounded_trees.proofs.Kept.{field_values_later, greatest_within}
use Rattle.pp_bounded_trees.proofs.Known.{fields_fit, heights_same}
use Rattle.pp_bounded_trees.proofs.Locality.{node_value}
use Rattle.pp_bounded_trees.proofs.Pushed.{Moves_pushed}
use Rattle.pp_bounded_trees.proofs.Sorted.{fields_up_to, tree_up_to}

-- as many alternatives are true as literals
true_same : (a : ℕ → Bool) (ys : List Alternative) (ls : List Literal) → length ys ≡ length ls
    → ((j : ℕ) (y : Alternative) → slice_get ys j ≡ Some y → slice_get ls j ≡ Some y.lit)
    → true_among a ys ≡ true_in a ls
true_same a [] [] len lits = refl
true_same a [] (l ∷ ls) len lits = absurd (omega (arith, len))
true_same a (y ∷ ys) [] len lits = absurd (omega (arith, len))
true_same a (y ∷ ys) (l ∷ ls) len lits =
    let one : lit_bit a y.lit ≡ lit_bit a l = ap (lit_bit a) (same_Some y.lit l (sym (lits 0 y refl))) in
    let rest = true_same a ys ls (omega (arith, len)) (λ j z at. lits (suc j) z at) in omega arith

module _ (types : TypeTable) (d e f : Trees) (gs fs hs : List Gate) (m n h : ℕ) (of : DataId) (cs : List CtorId)
    (ls : List Literal) (ys : List Alternative) (node : Node) (t : BoundedTree) (before : Grows gs fs m)
    (choices : AreChoices gs fs ls) (possible : ArePossible types h of cs) (len : length ls ≡ length cs)
    (moves : Moves bounded_sense types d fs e hs n) (full : AreFullAlternatives types fs e hs h cs ls ys)
    (node_of : node.of ≡ of) (node_height : node.height ≡ suc h) (alternatives : node.alternatives ≡ ys)
    (pushed : f.nodes ≡ e.nodes ++ node ∷ []) (ok : f.ok ≡ e.ok) (number : t.number ≡ length e.nodes)
    (tree_of : t.of ≡ node.of) (tree_height : t.height ≡ node.height) (small : suc h ≤ 2 ^ 32) where
  one_true : (a : ℕ → Bool) → Gives a hs → true_among a ys ≡ 1
  one_true a gives =
      true_same a ys ls (full.len ∙ sym len) full.lits
      ∙ choices.one a (Gives_old fs hs n moves.grows a gives)

  own_fits : NodeFits hs e.nodes types (length e.nodes) node
  own_fits = record {
    each = λ j y at.
        let here = subst (λ zs. slice_get zs j ≡ Some y) alternatives at in
        let a = full.each j y here in
        let p = possible.each j y.ctor (full.ctors j y here) in
        let same : p.0 ≡ a.entry = same_Some p.0 a.entry (sym p.1 ∙ a.at) in
        let low = greatest_within h y.fields a.fields.heights in
        let high = ap greatest (heights_same e y.fields) in
        record {
          low = omega arith;
          lit_of = IsOf_more fs hs n y.lit moves.grows (choices.of j y.lit (full.lits j y here));
          entry = a.entry;
          at = a.at;
          data_of = ap (λ (k : Ctor). k.of) (sym same) ∙ p.2 ∙ sym node_of;
          fields = fields_fit e hs node.height a.entry.fields y.fields a.fields.of (omega arith);
        };
    order = λ i j y z lt one other.
        possible.order i j y.ctor z.ctor lt
        (full.ctors i y (subst (λ zs. slice_get zs i ≡ Some y) alternatives one))
        (full.ctors j z (subst (λ zs. slice_get zs j ≡ Some z) alternatives other));
    one = inr (λ a gives. ap (true_among a) alternatives ∙ one_true a gives);
  }

  pub full_moves : Moves bounded_sense types e hs f hs 0
  full_moves = Moves_pushed types e f hs node moves.fits pushed ok own_fits

  here : slice_get f.nodes (length e.nodes) ≡ Some node
  here = ap (λ xs. slice_get xs (length e.nodes)) pushed ∙ at_next e.nodes [] node

  -- the value of the tree, where the literal of an alternative is true
  its_value : (a : ℕ → Bool) (j : ℕ) (y : Alternative) (vs : List Value) → Gives a hs → slice_get ys j ≡ Some y
      → lit_value a y.lit ≡ true → field_values a (values_of a e.nodes) y.fields ≡ Some vs
      → value_at (values_of a f.nodes) t.number ≡ Some (value.Tree y.ctor vs)
  its_value a j y vs gives at is stand =
      let b = full.each j y at in
      ap (value_at (values_of a f.nodes)) number
      ∙ node_value a hs types f.nodes (length e.nodes) node full_moves.fits.arena here
      ∙ ap (value_among a (values_of a f.nodes)) alternatives
      ∙ among_own a (values_of a f.nodes) ys j y (one_true a gives) at is
      ∙ ap (built y.ctor) (field_values_later types e f hs hs 0 full_moves a a (agree_self (length hs) a)
      b.entry.fields y.fields vs b.fields.of stand)

  chosen : (a : ℕ → Bool) (v : Value) → Gives a gs → IsValueUpTo types (suc h) (sort.Tree of) v
      → ChosenValue gs hs a f (symbol.Tree t) v
  chosen a v gives is =
      let w = fields_up_to types h of v is in
      let p = possible.all w.0.ctor w.0.entry w.0.at w.0.data_of
      (fields_possible types h w.0.entry.fields w.0.fields w.1) in
      let within = slice_get_within cs p.0 w.0.ctor p.1 in
      let y = at_some ys p.0 (omega (arith, full.len)) in
      let b = full.each p.0 y.0 y.1 in
      let ctor : y.0.ctor ≡ w.0.ctor = same_Some y.0.ctor w.0.ctor (sym (full.ctors p.0 y.0 y.1) ∙ p.1) in
      let entry : w.0.entry ≡ b.entry = same_Some w.0.entry b.entry
      (sym w.0.at ∙ ap (λ (c : CtorId). slice_get types.ctors c.0) (sym ctor) ∙ b.at) in
      let pick = choices.picked a p.0 y.0.lit gives (full.lits p.0 y.0 y.1) in
      let c = b.fields.chosen pick.next w.0.fields pick.gives
      (subst (λ (k : Ctor). AreValuesUpTo types h k.fields w.0.fields) entry w.1) in
      let lit = sym (lit_agree (length fs) pick.next c.next y.0.lit
      (choices.of p.0 y.0.lit (full.lits p.0 y.0 y.1)) c.keeps) ∙ pick.is in
      record {
        next = c.next;
        gives = c.gives;
        keeps = agree_along (length gs) (length fs) a pick.next c.next (length-Grows gs fs m before).0 pick.keeps
            c.keeps;
        value = its_value c.next p.0 y.0 w.0.fields c.gives y.1 lit c.values
            ∙ ap (λ (c : CtorId). Some (value.Tree c w.0.fields)) ctor ∙ ap Some (sym w.0.is);
      }

  bounded : (a : ℕ → Bool) → Gives a hs → HasValueUpTo types a f (suc h) (sort.Tree of) (symbol.Tree t)
  bounded a gives =
      let o = true_one a ys (one_true a gives) in
      let b = full.each o.place o.own o.at in
      let c = b.fields.bounded a gives in
      let p = possible.each o.place o.own.ctor (full.ctors o.place o.own o.at) in
      let same : b.entry ≡ p.0 = same_Some b.entry p.0 (sym b.at ∙ p.1) in
      let of_data : b.entry.of ≡ of = ap (λ (k : Ctor). k.of) same ∙ p.2 in
      record {
        value = value.Tree o.own.ctor c.values;
        stands = its_value a o.place o.own c.values gives o.at o.is c.stand;
        up_to = subst (λ (x : DataId). IsValueUpTo types (suc h) (sort.Tree x) (value.Tree o.own.ctor c.values)) of_data
            (tree_up_to types h o.own.ctor b.entry c.values b.at c.up_to);
      }

  pub tree_full : IsFull types gs f hs (suc h) (sort.Tree of) (symbol.Tree t)
  tree_full = record {
    of = (
      pushed_fits e.nodes f.nodes node t pushed number tree_of tree_height (omega arith),
      tree_of ∙ node_of,
    );
    height = tree_height ∙ node_height;
    chosen = chosen;
    bounded = bounded;
  }

  -- both
  pub full_node : Moves bounded_sense types e hs f hs 0 × IsFull types gs f hs (suc h) (sort.Tree of) (symbol.Tree t)
  full_node = (full_moves, tree_full)
