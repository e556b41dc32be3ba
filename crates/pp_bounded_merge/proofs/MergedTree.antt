-- The node of the constructors that are chosen from two sides.
use Rattle.std.proofs.Common.{◌≡◌, ℕ, zero, suc, ◌+◌, ◌<◌, ◌≤◌, max, Bool, true, false, if◌then◌else◌, List, [], ◌∷◌}
use Rattle.std.proofs.Common.{◌++◌, length, Option, Some, None, refl, sym, ap, ◌∙◌, subst, arith, slice_get, inl, inr}
use Rattle.std.proofs.lemmas.Bool.{cases_Bool, cases_order}
use Rattle.std.proofs.lemmas.Option.{same_Some, slice_get_within}
use Rattle.pp_prog.specs.declared.id.CtorId.{CtorId}
use Rattle.pp_prog.specs.declared.id.DataId.{DataId}
use Rattle.pp_prog.specs.declared.sort.Sort.{Sort}
use Rattle.pp_prog.specs.declared.sort.Sort.TheVariants as sort
use Rattle.pp_prog.specs.declared.types.Datatype.{Datatype}
use Rattle.pp_prog.specs.declared.types.TypeTable.{TypeTable}
use Rattle.pp_prog.specs.declared.value.Value.{Value}
use Rattle.pp_prog.specs.declared.value.Value.TheVariants as value
use Rattle.pp_prog.specs.Sizes.{ctors_of}
use Rattle.pp_prog.specs.Values.{greatest}
use Rattle.pp_clause.specs.Literal.{Literal, lit_value}
use Rattle.pp_gate.specs.declared.gate.Gate.{Gate}
use Rattle.pp_gate.specs.Circuit.{Gives}
use Rattle.pp_gate.proofs.Agreement.{Gives_old}
use Rattle.pp_gate.proofs.Places.{at_next}
use Rattle.pp_domain.specs.declared.symbol.Symbol.{Symbol}
use Rattle.pp_domain.specs.declared.symbol.Symbol.TheVariants as symbol
use Rattle.pp_domain.specs.Moves.{Moves}
use Rattle.pp_domain.proofs.Composition.{Moves_more, agree_self}
use Rattle.pp_bounded_trees.specs.declared.arena.Alternative.{Alternative}
use Rattle.pp_bounded_trees.specs.declared.arena.Trees.{Trees}
use Rattle.pp_bounded_trees.specs.declared.arena.BoundedTree.{BoundedTree}
use Rattle.pp_bounded_trees.specs.declared.arena.Node.{Node}
use Rattle.pp_bounded_trees.specs.Alternatives.{IsOwn, found}
use Rattle.pp_bounded_trees.specs.Arena.{FieldFits, FieldsFit, NodeFits, TreeFits, true_among}
use Rattle.pp_bounded_trees.specs.Meaning.{BoundedFits, bounded_sense}
use Rattle.pp_bounded_merge.specs.Merge.{Adds, AreAlternatives, IsChosen, MergedBefore, is_true}
use Rattle.pp_bounded_trees.specs.Values.{built, symbol_value, value_among, value_at, values_of}
use Rattle.pp_bounded_merge.proofs.Adding.{Adds_pushed}
use Rattle.pp_bounded_trees.proofs.Alternatives.{among_own, false_bit, own_of, true_bit, true_once, true_one}
use Rattle.pp_bounded_trees.proofs.Blank.{pushed_fits}
use Rattle.pp_bounded_trees.proofs.Candidates.{in_block_ctor}
use Rattle.pp_bounded_trees.proofs.Found.{found_has, found_some}
use Rattle.pp_bounded_trees.proofs.Kept.{field_values_later, greatest_within, symbol_value_before}
use Rattle.pp_bounded_trees.proofs.Known.{fields_fit, heights_same}
use Rattle.pp_bounded_trees.proofs.Locality.{node_value}
use Rattle.pp_prog.proofs.Values.{ctor_same}
use Rattle.pp_bounded_merge.proofs.MergedCtors.{fields_are_symbols, merged_lit}

-- where no literal is true, and where one alone is
none_true : (a : ℕ → Bool) (zs : List Alternative)
    → ((j : ℕ) (w : Alternative) → slice_get zs j ≡ Some w → lit_value a w.lit ≡ true → ⊥) → true_among a zs ≡ 0
none_true a [] not = refl
none_true a (x ∷ zs) not = elim (cases_Bool (lit_value a x.lit)) [
  | inl e ↦ absurd (not 0 x refl e)
  | inr e ↦
      let first = false_bit a x.lit e in
      let rest = none_true a zs (λ j w at is. not (suc j) w at is) in omega arith
]

pub one_alone : (a : ℕ → Bool) (zs : List Alternative) (k : ℕ) (z : Alternative) → slice_get zs k ≡ Some z
    → lit_value a z.lit ≡ true
    → ((j : ℕ) (w : Alternative) → slice_get zs j ≡ Some w → lit_value a w.lit ≡ true → j ≡ k) → true_among a zs ≡ 1
one_alone a [] k z at is alone = cc
one_alone a (x ∷ zs) zero z at is alone =
    let first = true_bit a x.lit (ap (λ (w : Alternative). lit_value a w.lit) (same_Some x z at) ∙ is) in
    let rest = none_true a zs (λ j w there lit. let e = alone (suc j) w there lit in
    let n : suc j ≡ 0 → ⊥ = (λ f. omega (arith, f)) in n e) in omega arith
one_alone a (x ∷ zs) (suc k) z at is alone = elim (cases_Bool (lit_value a x.lit)) [
  | inl e ↦ (let f = alone 0 x refl e in absurd (omega (arith, f)))
  | inr e ↦
      let first = false_bit a x.lit e in
      let rest = one_alone a zs k z at is (λ j w there lit. let f = alone (suc j) w there lit in omega (arith, f)) in
      omega arith
]

-- a node's constructors are also those of a node after it, and higher
field_wider : (gs : List Gate) (nodes : List Node) (k l h m : ℕ) (s : Sort) (x : Symbol BoundedTree) → k ≤ l → h ≤ m
    → FieldFits gs nodes k h s x → FieldFits gs nodes l m s x
field_wider gs nodes k l h m sort.Int (symbol.Word w) le high fits = fits
field_wider gs nodes k l h m sort.Bool (symbol.Bit w) le high fits = fits
field_wider gs nodes k l h m (sort.Tree of) (symbol.Tree t) le high fits = (
  record {
    node = fits.0.node;
    at = fits.0.at;
    before = let b = fits.0.before in omega arith;
    data_of = fits.0.data_of;
    height = fits.0.height;
    most = fits.0.most;
  },
  fits.1,
  (let b = fits.2 in omega arith),
)
field_wider gs nodes k l h m sort.Int (symbol.Bit w) le high fits = absurd fits
field_wider gs nodes k l h m sort.Int (symbol.Tree t) le high fits = absurd fits
field_wider gs nodes k l h m sort.Bool (symbol.Word w) le high fits = absurd fits
field_wider gs nodes k l h m sort.Bool (symbol.Tree t) le high fits = absurd fits
field_wider gs nodes k l h m (sort.Tree of) (symbol.Word w) le high fits = absurd fits
field_wider gs nodes k l h m (sort.Tree of) (symbol.Bit w) le high fits = absurd fits

fields_wider : (gs : List Gate) (nodes : List Node) (k l h m : ℕ) (ss : List Sort) (xs : List (Symbol BoundedTree))
    → k ≤ l → h ≤ m → FieldsFit gs nodes k h ss xs → FieldsFit gs nodes l m ss xs
fields_wider gs nodes k l h m [] [] le high fits = tt
fields_wider gs nodes k l h m [] (x ∷ xs) le high fits = absurd fits
fields_wider gs nodes k l h m (s ∷ ss) [] le high fits = absurd fits
fields_wider gs nodes k l h m (s ∷ ss) (x ∷ xs) le high fits =
    (field_wider gs nodes k l h m s x le high fits.0, fields_wider gs nodes k l h m ss xs le high fits.1)

pub node_alternatives : (types : TypeTable) (d : Trees) (gs : List Gate) (t : BoundedTree) (of : DataId) (m : ℕ)
    → BoundedFits types d gs → (tree : TreeFits d.nodes (length d.nodes) t) → t.of ≡ of → t.height ≤ m
    → AreAlternatives types d gs of m tree.node.alternatives
node_alternatives types d gs t of m fits tree data_of high j y at =
    let own = (fits.arena.each t.number tree.node tree.at).each j y at in record {
      low = let l = own.low in let h = tree.height in omega arith;
      lit_of = own.lit_of;
      entry = own.entry;
      at = own.at;
      data_of = own.data_of ∙ tree.data_of ∙ data_of;
      fields = fields_wider gs d.nodes t.number (length d.nodes) tree.node.height m own.entry.fields y.fields
          (let b = tree.before in omega arith) (let h = tree.height in omega arith) own.fields;
    }

-- a side of a tree: its constructors, in order, of which exactly one is true
pub record Side (types : TypeTable) (d : Trees) (gs : List Gate) (t : BoundedTree) (xs : List Alternative) : Type 0
  where
    pub tree : TreeFits d.nodes (length d.nodes) t
    pub is : xs ≡ tree.node.alternatives
    pub some : xs ≡ [] → ⊥

module _ (types : TypeTable) (d : Trees) (gs : List Gate) (fits : BoundedFits types d gs) where
  -- the constructors stand in order of their numbers
  pub side_order : (t : BoundedTree) (xs : List Alternative) → Side types d gs t xs → (i j : ℕ) (y z : Alternative)
      → i < j
      → slice_get xs i ≡ Some y → slice_get xs j ≡ Some z → y.ctor.0 < z.ctor.0
  side_order t xs s i j y z lt one other =
      (fits.arena.each t.number s.tree.node s.tree.at).order i j y z lt
      (ap (λ ys. slice_get ys i) (sym s.is) ∙ one) (ap (λ ys. slice_get ys j) (sym s.is) ∙ other)

  -- exactly one is true
  pub side_one : (t : BoundedTree) (xs : List Alternative) → Side types d gs t xs → (a : ℕ → Bool) → Gives a gs
      → true_among a xs ≡ 1
  side_one t xs s a gives =
      elim (fits.arena.each t.number s.tree.node s.tree.at).one [
        | inl e ↦ absurd (s.some (s.is ∙ e))
        | inr e ↦ ap (true_among a) s.is ∙ e a gives
      ]

  -- the constructor that is true, found by its number
  pub record TrueCtor (a : ℕ → Bool) (xs : List Alternative) : Type 0 where
    pub place : ℕ
    pub own : Alternative
    pub at : slice_get xs place ≡ Some own
    pub found_own : found own.ctor.0 xs ≡ Some own
    pub is : lit_value a own.lit ≡ true
    pub alone : (c : ℕ) → is_true a (found c xs) ≡ true → c ≡ own.ctor.0

  true_ctor : (t : BoundedTree) (xs : List Alternative) → Side types d gs t xs → (a : ℕ → Bool) → Gives a gs
      → TrueCtor a xs
  true_ctor t xs s a gives =
      let o = true_one a xs (side_one t xs s a gives) in record {
        place = o.place;
        own = o.own;
        at = o.at;
        found_own = found_has o.own.ctor.0 xs o.place o.own (side_order t xs s) o.at refl;
        is = o.is;
        alone = λ c is. by c (found c xs) refl is;
      }
    where
      by : (c : ℕ) (p : Option Alternative) → found c xs ≡ p → is_true a p ≡ true
          → c ≡ (true_one a xs (side_one t xs s a gives)).own.ctor.0
      by c None e is = cc
      by c (Some y) e is =
          let o = true_one a xs (side_one t xs s a gives) in
          let f = found_some c xs y e in
          let place : f.place ≡ o.place =
          true_once a xs f.place o.place y o.own (side_one t xs s a gives) f.at is o.at o.is in
          sym f.ctor ∙ ap (λ (w : Alternative). w.ctor.0)
          (same_Some y o.own (sym f.at ∙ ap (slice_get xs) place ∙ o.at))

module _ (types : TypeTable) (d e f : Trees) (gs hs : List Gate) (n : ℕ) (fits : BoundedFits types d gs)
    (adds : Adds types d gs e hs n) (choice : Literal) (left right : BoundedTree) (xs ys zs : List Alternative)
    (lefts : Side types d gs left xs) (rights : Side types d gs right ys) (same : right.of ≡ left.of) (h count : ℕ)
    (high : suc h ≡ max left.height right.height)
    (info : Datatype) (at_info : slice_get types.datatypes left.of.0 ≡ Some info)
    (whole : count ≡ length (ctors_of types left.of))
    (merged : MergedBefore types e hs choice left.of h xs ys info.first.0 count zs) (node : Node) (t : BoundedTree)
    (node_of : node.of ≡ left.of) (node_height : node.height ≡ suc h) (alternatives : node.alternatives ≡ zs)
    (pushed : f.nodes ≡ e.nodes ++ node ∷ []) (ok : f.ok ≡ e.ok) (number : t.number ≡ length e.nodes)
    (tree_of : t.of ≡ node.of) (tree_height : t.height ≡ node.height) where
  -- the constructor that is true on the chosen side is one of the chosen ones
  record OwnMerged (a : ℕ → Bool) (b : Bool) (c : ℕ) : Type 0 where
    pub place : ℕ
    pub own : Alternative
    pub at : slice_get zs place ≡ Some own
    pub ctor : own.ctor.0 ≡ c

  own_merged : (b : Bool) (u : BoundedTree) (us : List Alternative) → us ≡ (if b then xs else ys)
      → Side types d gs u us → u.of ≡ left.of → (a : ℕ → Bool) (y : Alternative) → (p : ℕ) → slice_get us p ≡ Some y
      → found y.ctor.0 us ≡ Some y → OwnMerged a b y.ctor.0
  own_merged b u us side s of a y p at has =
      let own = (fits.arena.each u.number s.tree.node s.tree.at).each p y (ap (λ ws. slice_get ws p) (sym s.is) ∙ at) in
      let block = in_block_ctor types left.of y.ctor.0 own.entry own.at (own.data_of ∙ s.tree.data_of ∙ of) in
      let same_info : block.datatype ≡ info = same_Some block.datatype info (sym block.at_data ∙ at_info) in
      let within = slice_get_within (ctors_of types left.of) block.place own.entry block.at in
      let r = merged.all b y.ctor.0 block.place y (omega arith)
      (block.number ∙ ap (λ (i : Datatype). i.first.0 + block.place) same_info)
      (ap (found y.ctor.0) (sym side) ∙ has) in
      record { place = r.0; own = r.1; at = r.2; ctor = r.3 }

  one_on_side : (b : Bool) (u : BoundedTree) (us : List Alternative) → us ≡ (if b then xs else ys)
      → Side types d gs u us → u.of ≡ left.of → (a : ℕ → Bool) → Gives a hs → lit_value a choice ≡ b
      → true_among a zs ≡ 1
  one_on_side b u us side s of a gives is =
      let c = true_ctor types d gs fits u us s a (Gives_old gs hs n adds.moves.grows a gives) in
      let m = own_merged b u us side s of a c.own c.place c.at c.found_own in
      one_alone a zs m.place m.own m.at
      (merged_lit types e hs choice left.of h xs ys m.own a b (merged.each m.place m.own m.at) gives is
      ∙ ap (is_true a) (ap (λ ws. found m.own.ctor.0 ws) (sym side) ∙ ap (λ k. found k us) m.ctor ∙ c.found_own)
      ∙ c.is)
      (λ j w at lit.
      let other = c.alone w.ctor.0
      (ap (is_true a) (ap (found w.ctor.0) side)
      ∙ sym (merged_lit types e hs choice left.of h xs ys w a b (merged.each j w at) gives is) ∙ lit) in
      one_place j m.place w m.own at m.at (other ∙ sym m.ctor))
    where
      one_place : (i j : ℕ) (v w : Alternative) → slice_get zs i ≡ Some v → slice_get zs j ≡ Some w
          → v.ctor.0 ≡ w.ctor.0 → i ≡ j
      one_place i j v w one other same_number = elim (cases_order i j) [
        | inl e ↦ e
        | inr o ↦ elim o [
          | inl less ↦ (let l = merged.order i j v w less one other in absurd (omega arith))
          | inr more ↦ (let l = merged.order j i w v more other one in absurd (omega arith))
        ]
      ]

  pub merged_one : (a : ℕ → Bool) → Gives a hs → true_among a zs ≡ 1
  merged_one a gives = elim (cases_Bool (lit_value a choice)) [
    | inl e ↦ one_on_side true left xs refl lefts refl a gives e
    | inr e ↦ one_on_side false right ys refl rights same a gives e
  ]

  own_fits : NodeFits hs e.nodes types (length e.nodes) node
  own_fits = record {
    each = λ j z at.
        let m = merged.each j z (subst (λ ws. slice_get ws j ≡ Some z) alternatives at) in
        let low = greatest_within h z.fields m.low in
        let same_heights = ap greatest (heights_same e z.fields) in record {
          low = omega arith;
          lit_of = m.lit.of;
          entry = m.entry;
          at = m.at;
          data_of = m.data_of ∙ sym node_of;
          fields = fields_fit e hs node.height m.entry.fields z.fields m.symbols (omega arith);
        };
    order = λ i j y z lt one other.
        merged.order i j y z lt (subst (λ ws. slice_get ws i ≡ Some y) alternatives one)
        (subst (λ ws. slice_get ws j ≡ Some z) alternatives other);
    one = inr (λ a gives. ap (true_among a) alternatives ∙ merged_one a gives);
  }

  pub merged_pushed : Adds types e hs f hs 0
  merged_pushed = Adds_pushed types e f hs node adds.moves.fits pushed ok own_fits

  here : slice_get f.nodes (length e.nodes) ≡ Some node
  here = ap (λ ws. slice_get ws (length e.nodes)) pushed ∙ at_next e.nodes [] node

  moves : Moves bounded_sense types d gs f hs n
  moves = Moves_more bounded_sense types d e f gs hs hs n 0 n adds.moves merged_pushed.moves (omega arith)

  on_side : (b : Bool) (u : BoundedTree) (us : List Alternative) → us ≡ (if b then xs else ys)
      → Side types d gs u us → u.of ≡ left.of → (a : ℕ → Bool) (v : Value) → Gives a hs → lit_value a choice ≡ b
      → value_at (values_of a f.nodes) u.number ≡ Some v → value_at (values_of a f.nodes) t.number ≡ Some v
  on_side b u us side s of a v gives is stands =
      let old = symbol_value_before types d f gs hs n moves a a (agree_self (length gs) a) (sort.Tree u.of)
      (symbol.Tree u) v (s.tree, refl) stands in
      let o : IsOwn a (values_of a d.nodes) us v = own_of a (values_of a d.nodes) us v
      (ap (value_among a (values_of a d.nodes)) s.is
      ∙ sym (node_value a gs types d.nodes u.number s.tree.node fits.arena s.tree.at) ∙ old) in
      let has = found_has o.own.ctor.0 us o.place o.own (side_order types d gs fits u us s) o.at refl in
      let m = own_merged b u us side s of a o.own o.place o.at has in
      let its = merged.each m.place m.own m.at in
      let on = ap (found m.own.ctor.0) (sym side) ∙ ap (λ k. found k us) m.ctor ∙ has in
      let lit = merged_lit types e hs choice left.of h xs ys m.own a b its gives is ∙ ap (is_true a) on ∙ o.is_true in
      let own_entry = (fits.arena.each u.number s.tree.node s.tree.at).each o.place o.own
      (ap (λ ws. slice_get ws o.place) (sym s.is) ∙ o.at) in
      let y_fields = field_values_later types d e gs hs n adds.moves a a (agree_self (length gs) a)
      own_entry.entry.fields o.own.fields o.fields
      (fields_are_symbols d gs u.number s.tree.node.height own_entry.entry.fields
      o.own.fields (let w = s.tree.before in omega arith) own_entry.fields) o.stand in
      let z_fields = its.means a b o.own o.fields gives is on y_fields in
      let at_f = field_values_later types e f hs hs 0 merged_pushed.moves a a (agree_self (length hs) a)
      its.entry.fields m.own.fields o.fields its.symbols z_fields in
      ap (value_at (values_of a f.nodes)) number
      ∙ node_value a hs types f.nodes (length e.nodes) node merged_pushed.moves.fits.arena here
      ∙ ap (value_among a (values_of a f.nodes)) alternatives
      ∙ among_own a (values_of a f.nodes) zs m.place m.own (merged_one a gives) m.at lit
      ∙ ap (built m.own.ctor) at_f
      ∙ ap (λ (c : CtorId). Some (value.Tree c o.fields)) (ctor_same m.own.ctor o.own.ctor m.ctor)
      ∙ ap Some (sym o.value)

  pub merged_chosen : IsChosen f hs choice (sort.Tree left.of) (symbol.Tree left) (symbol.Tree right) (symbol.Tree t)
  merged_chosen = record {
    of = (
      pushed_fits e.nodes f.nodes node t pushed number tree_of tree_height
          (let p = (adds.moves.nodes left lefts.tree).node.most in let q = (adds.moves.nodes right
          rights.tree).node.most in
          omega arith),
      tree_of ∙ node_of,
    );
    height = tree_height ∙ node_height ∙ high;
    means = λ a b v gives is stands. by a b v gives is stands;
  }
    where
      by : (a : ℕ → Bool) (b : Bool) (v : Value) → Gives a hs → lit_value a choice ≡ b
          → symbol_value a (values_of a f.nodes)
          (if b then symbol.Tree left else symbol.Tree right) ≡ Some v
          → value_at (values_of a f.nodes) t.number ≡ Some v
      by a true v gives is stands = on_side true left xs refl lefts refl a v gives is stands
      by a false v gives is stands = on_side false right ys refl rights same a v gives is stands

  -- both
  pub merged_node : Adds types e hs f hs 0
      × IsChosen f hs choice (sort.Tree left.of) (symbol.Tree left) (symbol.Tree right) (symbol.Tree t)
  merged_node = (merged_pushed, merged_chosen)
