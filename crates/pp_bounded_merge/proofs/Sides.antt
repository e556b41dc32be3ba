-- The two sides of a choice: over calls, their gates, and where one of them has no constructor.
use Rattle.std.proofs.Common.{◌≡◌, ℕ, zero, suc, ◌+◌, ◌-◌, ◌<◌, ◌≤◌, ◌^◌, max, nat_eq, eq-eqb, Bool, true, false}
use Rattle.std.proofs.Common.{if◌then◌else◌, List, [], ◌∷◌, length, get_or, take, Option, Some, None, refl, sym, ap}
use Rattle.std.proofs.Common.{◌∙◌, subst, arith, slice_get, inl, inr}
use Rattle.std.proofs.lemmas.Bool.{cases_lt, ne_eqb}
use Rattle.std.proofs.lemmas.List.{take_all}
use Rattle.std.specs.Prelude.{◌↔◌}
use Rattle.std.proofs.lemmas.Option.{same_Some, slice_get_within}
use Rattle.pp_prog.specs.declared.id.DataId.{DataId}
use Rattle.pp_prog.specs.declared.sort.Sort.{Sort}
use Rattle.pp_prog.specs.declared.sort.Sort.TheVariants as sort
use Rattle.pp_prog.specs.declared.types.Datatype.{Datatype}
use Rattle.pp_prog.specs.declared.types.TypeTable.{TypeTable}
use Rattle.pp_prog.specs.declared.value.Value.{Value}
use Rattle.pp_prog.specs.Sizes.{bits, ctors_of}
use Rattle.pp_clause.specs.Literal.{Literal}
use Rattle.pp_gate.specs.declared.gate.Gate.{Gate}
use Rattle.pp_gate.proofs.Growing.{IsOf_more}
use Rattle.pp_gate.proofs.Places.{at_read, at_some}
use Rattle.pp_bits.proofs.Growing.{AreOf_more}
use Rattle.pp_domain.specs.declared.symbol.Symbol.{Symbol}
use Rattle.pp_domain.specs.declared.symbol.Symbol.TheVariants as symbol
use Rattle.pp_domain.specs.Moves.{Moves}
use Rattle.pp_domain.specs.Symbols.{IsSymbol}
use Rattle.pp_domain.proofs.Symbols.{AreSymbols_later}
use Rattle.pp_bounded_trees.specs.declared.arena.Alternative.{Alternative}
use Rattle.pp_bounded_trees.specs.declared.arena.Trees.{Trees}
use Rattle.pp_bounded_trees.specs.declared.arena.BoundedTree.{BoundedTree}
use Rattle.pp_bounded_trees.specs.declared.arena.Node.{Node}
use Rattle.pp_bounded_trees.specs.Alternatives.{IsIn, found}
use Rattle.pp_bounded_trees.specs.Arena.{FieldFits, FieldsFit, TreeFits}
use Rattle.pp_bounded_trees.specs.Possible.{field_bits, total}
use Rattle.pp_bounded_trees.specs.Meaning.{BoundedFits, bounded_sense}
use Rattle.pp_bounded_merge.specs.Merge.{AreAlternatives, AreOfSorts, IsChosen, TwoSides, joined_bits, merged_bits}
use Rattle.pp_bounded_merge.specs.Merge.{pairs_bits}
use Rattle.pp_bounded_trees.specs.Values.{symbol_value, value_among, value_at, values_of}
use Rattle.pp_bounded_trees.proofs.Candidates.{bits_of_ctors, ctor_in_block, in_block_ctor, take_whole}
use Rattle.pp_bounded_merge.proofs.Chosen.{symbol_at, symbols_length}
use Rattle.pp_bounded_trees.proofs.Locality.{node_value}
use Rattle.pp_bounded_merge.proofs.MergedSides.{merged_within}
use Rattle.pp_bounded_merge.proofs.MergedTree.{Side, node_alternatives}
use Rattle.pp_bounded_merge.proofs.Ranks.{tops, tops_within}

module _ (types : TypeTable) (d e : Trees) (gs hs : List Gate) (n : ℕ)
    (moves : Moves bounded_sense types d gs e hs n) where
  field_moved : (h : ℕ) (s : Sort) (x : Symbol BoundedTree) → FieldFits gs d.nodes (length d.nodes) h s x
      → FieldFits hs e.nodes (length e.nodes) h s x
  field_moved h sort.Int (symbol.Word w) fits = (fits.0, AreOf_more gs hs n w moves.grows fits.1)
  field_moved h sort.Bool (symbol.Bit l) fits = IsOf_more gs hs n l moves.grows fits
  field_moved h (sort.Tree of) (symbol.Tree t) fits = ((moves.nodes t fits.0).node, fits.1, fits.2)
  field_moved h sort.Int (symbol.Bit l) fits = absurd fits
  field_moved h sort.Int (symbol.Tree t) fits = absurd fits
  field_moved h sort.Bool (symbol.Word w) fits = absurd fits
  field_moved h sort.Bool (symbol.Tree t) fits = absurd fits
  field_moved h (sort.Tree of) (symbol.Word w) fits = absurd fits
  field_moved h (sort.Tree of) (symbol.Bit l) fits = absurd fits

  fields_moved : (h : ℕ) (ss : List Sort) (xs : List (Symbol BoundedTree))
      → FieldsFit gs d.nodes (length d.nodes) h ss xs → FieldsFit hs e.nodes (length e.nodes) h ss xs
  fields_moved h [] [] fits = tt
  fields_moved h [] (x ∷ xs) fits = absurd fits
  fields_moved h (s ∷ ss) [] fits = absurd fits
  fields_moved h (s ∷ ss) (x ∷ xs) fits = (field_moved h s x fits.0, fields_moved h ss xs fits.1)

  pub alternatives_moved : (of : DataId) (h : ℕ) (xs : List Alternative) → AreAlternatives types d gs of h xs
      → AreAlternatives types e hs of h xs
  alternatives_moved of h xs are j y at =
      let own = are j y at in record {
        low = own.low;
        lit_of = IsOf_more gs hs n y.lit moves.grows own.lit_of;
        entry = own.entry;
        at = own.at;
        data_of = own.data_of;
        fields = fields_moved h own.entry.fields y.fields own.fields;
      }

  abbrev pub TwoSides_later : (xs ys : List Alternative) → TwoSides types d gs xs ys → TwoSides types e hs xs ys
  TwoSides_later xs ys s = record {
    of = s.of;
    h = s.h;
    left = alternatives_moved s.of (suc s.h) xs s.left;
    right = alternatives_moved s.of (suc s.h) ys s.right;
  }

  abbrev pub AreOfSorts_later : (xs ys : List (Symbol BoundedTree)) → AreOfSorts d gs xs ys → AreOfSorts e hs xs ys
  AreOfSorts_later xs ys s = record {
    sorts = s.sorts;
    left = AreSymbols_later bounded_sense types d e gs hs n s.sorts xs moves s.left;
    right = AreSymbols_later bounded_sense types d e gs hs n s.sorts ys moves s.right;
  }

-- the gates of one constructor more
pub merged_next : (types : TypeTable) (xs ys : List Alternative) (first n : ℕ)
    → merged_bits types xs ys first (n + 1)
    ≡ merged_bits types xs ys first n + joined_bits types (found (first + n) xs) (found (first + n) ys)
merged_next types xs ys first n = let e : n + 1 ≡ suc n = omega arith in ap (merged_bits types xs ys first) e

pub merged_grow : (types : TypeTable) (xs ys : List Alternative) (first n m : ℕ) → n ≤ m
    → merged_bits types xs ys first n ≤ merged_bits types xs ys first m
merged_grow types xs ys first n zero le = let e : n ≡ 0 = omega arith in
    let f = ap (merged_bits types xs ys first) e in omega arith
merged_grow types xs ys first n (suc m) le = elim (cases_lt m n) [
  | inl above ↦ (let e : n ≡ suc m = omega arith in let f = ap (merged_bits types xs ys first) e in omega arith)
  | inr within ↦ (let r = merged_grow types xs ys first n m within in omega arith)
]

-- a side that has a constructor
pub record FirstOf (xs : List Alternative) : Type 0 where
  pub own : Alternative
  pub at : slice_get xs 0 ≡ Some own

pub first_of : (xs : List Alternative) → (xs ≡ [] → ⊥) → FirstOf xs
first_of [] some = absurd (some refl)
first_of (x ∷ xs) some = record { own = x; at = refl }

module _ (types : TypeTable) (d : Trees) (gs : List Gate) (fits : BoundedFits types d gs) (t : BoundedTree)
    (xs : List Alternative) (side : Side types d gs t xs) where
  pub side_high : 1 ≤ t.height
  side_high =
      let f = first_of xs side.some in
      let own = (fits.arena.each t.number side.tree.node side.tree.at).each 0 f.own
      (ap (λ ys. slice_get ys 0) (sym side.is) ∙ f.at) in
      let l = own.low in let h = side.tree.height in omega arith

  pub side_data : t.of.0 < length types.datatypes
  side_data =
      let f = first_of xs side.some in
      let own = (fits.arena.each t.number side.tree.node side.tree.at).each 0 f.own
      (ap (λ ys. slice_get ys 0) (sym side.is) ∙ f.at) in
      let b = in_block_ctor types t.of f.own.ctor.0 own.entry own.at (own.data_of ∙ side.tree.data_of) in
      slice_get_within types.datatypes t.of.0 b.datatype b.at_data

-- the gates of all constructors
pub merged_all : (types : TypeTable) (d : Trees) (gs : List Gate) (of : DataId) (h m : ℕ) (xs ys : List Alternative)
    → AreAlternatives types d gs of (suc h) xs → AreAlternatives types d gs of (suc h) ys → (t : Datatype)
    → slice_get types.datatypes of.0 ≡ Some t → suc h ≡ m → (n : ℕ) → n ≡ length (ctors_of types of)
    → merged_bits types xs ys t.first.0 n ≤ bits types m (sort.Tree of)
merged_all types d gs of h m xs ys left right t is high n whole =
    let w = merged_within types d gs of h xs ys left right t is n (omega arith) in
    let b = bits_of_ctors types h of in
    let e = ap (λ k. bits types k (sort.Tree of)) high in
    let all = ap (λ k. take k (ctors_of types of)) whole ∙ take_whole (ctors_of types of) in
    let f = ap (total (field_bits types h)) all in
    omega arith

-- the same tree, with a greater height
pub higher : (nodes : List Node) (t : BoundedTree) (u : BoundedTree) → TreeFits nodes (length nodes) t
    → u.number ≡ t.number → u.of ≡ t.of → t.height ≤ u.height → u.height ≤ 2 ^ 32 + length nodes
    → TreeFits nodes (length nodes) u
higher nodes t u fits number of high most = record {
  node = fits.node;
  at = ap (slice_get nodes) number ∙ fits.at;
  before = let b = fits.before in omega arith;
  data_of = fits.data_of ∙ sym of;
  height = let h = fits.height in omega arith;
  most = most;
}

module _ (types : TypeTable) (d : Trees) (gs : List Gate) (choice : Literal) (left right u : BoundedTree)
    (fits : BoundedFits types d gs) (lefts : TreeFits d.nodes (length d.nodes) left)
    (rights : TreeFits d.nodes (length d.nodes) right) (same : right.of ≡ left.of) (of : u.of ≡ left.of)
    (high : u.height ≡ max left.height right.height) where
  most : u.height ≤ 2 ^ 32 + length d.nodes
  most = let p = lefts.most in let q = rights.most in omega arith

  -- both name one node
  pub chosen_same : left.number ≡ right.number → u.number ≡ left.number
      → IsChosen d gs choice (sort.Tree left.of) (symbol.Tree left) (symbol.Tree right) (symbol.Tree u)
  chosen_same one number = record {
    of = (higher d.nodes left u lefts number of (omega arith) most, of);
    height = high;
    means = λ a b v gives is stands. by a b v stands;
  }
    where
      by : (a : ℕ → Bool) (b : Bool) (v : Value)
          → symbol_value a (values_of a d.nodes) (if b then symbol.Tree left else symbol.Tree right) ≡ Some v
          → value_at (values_of a d.nodes) u.number ≡ Some v
      by a true v stands = ap (value_at (values_of a d.nodes)) number ∙ stands
      by a false v stands = ap (value_at (values_of a d.nodes)) (number ∙ one) ∙ stands

  nothing : (t : BoundedTree) (tree : TreeFits d.nodes (length d.nodes) t) → tree.node.alternatives ≡ []
      → (a : ℕ → Bool) (v : Value) → value_at (values_of a d.nodes) t.number ≡ Some v → ⊥
  nothing t tree empty a v is =
      let n : None ≡ Some v = sym (node_value a gs types d.nodes t.number tree.node fits.arena tree.at
      ∙ ap (value_among a (values_of a d.nodes)) empty) ∙ is in cc

  -- the right one stands for nothing
  pub chosen_left : (ys : List Alternative) → ys ≡ rights.node.alternatives → ys ≡ [] → u.number ≡ left.number
      → IsChosen d gs choice (sort.Tree left.of) (symbol.Tree left) (symbol.Tree right) (symbol.Tree u)
  chosen_left ys is empty number = record {
    of = (higher d.nodes left u lefts number of (omega arith) most, of);
    height = high;
    means = λ a b v gives side stands. by a b v stands;
  }
    where
      by : (a : ℕ → Bool) (b : Bool) (v : Value)
          → symbol_value a (values_of a d.nodes) (if b then symbol.Tree left else symbol.Tree right) ≡ Some v
          → value_at (values_of a d.nodes) u.number ≡ Some v
      by a true v stands = ap (value_at (values_of a d.nodes)) number ∙ stands
      by a false v stands = absurd (nothing right rights (sym is ∙ empty) a v stands)

  -- the left one does
  pub chosen_right : (xs : List Alternative) → xs ≡ lefts.node.alternatives → xs ≡ [] → u.number ≡ right.number
      → IsChosen d gs choice (sort.Tree left.of) (symbol.Tree left) (symbol.Tree right) (symbol.Tree u)
  chosen_right xs is empty number = record {
    of = (higher d.nodes right u rights number (of ∙ sym same) (omega arith) most, of);
    height = high;
    means = λ a b v gives side stands. by a b v stands;
  }
    where
      by : (a : ℕ → Bool) (b : Bool) (v : Value)
          → symbol_value a (values_of a d.nodes) (if b then symbol.Tree left else symbol.Tree right) ≡ Some v
          → value_at (values_of a d.nodes) u.number ≡ Some v
      by a true v stands = absurd (nothing left lefts (sym is ∙ empty) a v stands)
      by a false v stands = ap (value_at (values_of a d.nodes)) number ∙ stands

-- the two sides of two trees of one datatype
module _ (types : TypeTable) (d : Trees) (gs : List Gate) (fits : BoundedFits types d gs)
    (left right : BoundedTree) (xs ys : List Alternative) (lefts : Side types d gs left xs)
    (rights : Side types d gs right ys) (same : right.of ≡ left.of) where
  abbrev pub sides_height : ℕ
  sides_height = max left.height right.height - 1

  pub sides_high : suc sides_height ≡ max left.height right.height
  sides_high = let l = side_high types d gs fits left xs lefts in omega arith

  abbrev pub two_sides : TwoSides types d gs xs ys
  two_sides = record {
    of = left.of;
    h = sides_height;
    left = subst (λ zs. AreAlternatives types d gs left.of (suc sides_height) zs) (sym lefts.is)
        (node_alternatives types d gs left left.of (suc sides_height) fits lefts.tree refl
        (let h = sides_high in omega arith));
    right = subst (λ zs. AreAlternatives types d gs left.of (suc sides_height) zs) (sym rights.is)
        (node_alternatives types d gs right left.of (suc sides_height) fits rights.tree same
        (let h = sides_high in omega arith));
  }

  pub sides_rank : tops xs ≤ left.number
  sides_rank =
      let e = ap tops lefts.is in
      let w = tops_within types gs d.nodes left.number lefts.tree.node.of lefts.tree.node.height
      lefts.tree.node.alternatives (fits.arena.each left.number lefts.tree.node lefts.tree.at).each in
      omega arith

  module _ (t : Datatype) (is : slice_get types.datatypes left.of.0 ≡ Some t) (n : ℕ)
      (whole : n ≡ length (ctors_of types left.of)) where
    pub sides_bits : merged_bits types xs ys t.first.0 n
        ≤ bits types (max left.height right.height) (sort.Tree left.of)
    sides_bits =
        merged_all types d gs left.of sides_height (max left.height right.height) xs ys two_sides.left
        two_sides.right t is sides_high n whole

    pub sides_small : t.first.0 + n ≤ 2 ^ 32
    sides_small =
        let f = first_of xs lefts.some in
        let own = (fits.arena.each left.number lefts.tree.node lefts.tree.at).each 0 f.own
        (ap (λ zs. slice_get zs 0) (sym lefts.is) ∙ f.at) in
        let b = in_block_ctor types left.of f.own.ctor.0 own.entry own.at (own.data_of ∙ lefts.tree.data_of) in
        let some = slice_get_within (ctors_of types left.of) b.place own.entry b.at in
        let last = at_some (ctors_of types left.of) (n - 1) (omega arith) in
        let c = ctor_in_block types left.of t (n - 1) last.0 is last.1 in
        let within = slice_get_within types.ctors (t.first.0 + (n - 1)) last.0 c.0 in
        let few = types.few_ctors in
        omega arith

-- the two symbols at a place are of one sort
pub record PairAt (d : Trees) (gs : List Gate) (xs ys : List (Symbol BoundedTree)) (i : ℕ) (x y : Symbol BoundedTree)
    (s : AreOfSorts d gs xs ys) : Type 0 where
  pub sort : Sort
  pub at : slice_get s.sorts i ≡ Some sort
  pub first : IsSymbol bounded_sense d gs sort x
  pub second : IsSymbol bounded_sense d gs sort y

pub pair_at : (d : Trees) (gs : List Gate) (xs ys : List (Symbol BoundedTree)) (i : ℕ) (x y : Symbol BoundedTree)
    (s : AreOfSorts d gs xs ys) → slice_get xs i ≡ Some x → slice_get ys i ≡ Some y → PairAt d gs xs ys i x y s
pair_at d gs xs ys i x y s here there =
    let p = symbol_at d gs s.sorts xs i x s.left here in
    let q = symbol_at d gs s.sorts ys i y s.right there in
    record {
      sort = p.sort;
      at = p.at;
      first = p.is;
      second = subst (λ r. IsSymbol bounded_sense d gs r y) (same_Some q.sort p.sort (sym q.at ∙ p.at)) q.is;
    }

pub right_within : (d : Trees) (gs : List Gate) (xs ys : List (Symbol BoundedTree)) (i : ℕ) → AreOfSorts d gs xs ys
    → i < length xs → i < length ys
right_within d gs xs ys i s lt =
    let l = symbols_length d gs s.sorts xs s.left in
    let r = symbols_length d gs s.sorts ys s.right in omega arith

-- all of them
pub whole_right : (d : Trees) (gs : List Gate) (xs ys : List (Symbol BoundedTree)) (i : ℕ) → AreOfSorts d gs xs ys
    → (length xs ≤ i) → take i ys ≡ ys
whole_right d gs xs ys i s past =
    let l = symbols_length d gs s.sorts xs s.left in
    let r = symbols_length d gs s.sorts ys s.right in take_all i ys (omega arith)

pub whole_sorts : (d : Trees) (gs : List Gate) (xs ys : List (Symbol BoundedTree)) (i : ℕ) (s : AreOfSorts d gs xs ys)
    → (length xs ≤ i) → take i s.sorts ≡ s.sorts
whole_sorts d gs xs ys i s past =
    let l = symbols_length d gs s.sorts xs s.left in take_all i s.sorts (omega arith)

pub not_empty : (xs : List Alternative) (b : Bool) → (b ≡ true) ↔ (xs ≡ []) → b ≡ false → xs ≡ [] → ⊥
not_empty xs b test not empty = let both : true ≡ false = sym (test.1 empty) ∙ not in cc

-- what the length tells
pub nil_from : (xs : List Alternative) (b : Bool) → b ≡ nat_eq (length xs) 0 → b ≡ true → xs ≡ []
nil_from [] b test is = refl
nil_from (x ∷ xs) b test is =
    let differ : nat_eq (suc (length xs)) 0 ≡ false = ne_eqb (suc (length xs)) 0 (λ e. omega (arith, e)) in
    let no : true ≡ false = sym is ∙ test ∙ differ in cc

pub nil_never : (xs : List Alternative) (b : Bool) → b ≡ nat_eq (length xs) 0 → b ≡ false → xs ≡ [] → ⊥
nil_never xs b test not empty =
    let no : true ≡ false = sym (eq-eqb (length xs) 0 (ap length empty)) ∙ sym test ∙ not in cc

-- the side of a tree, as the code reads it
pub side_read : (types : TypeTable) (d : Trees) (gs : List Gate) (t : BoundedTree) (xs : List Alternative) (b : Bool)
    → TreeFits d.nodes (length d.nodes) t → IsIn d.nodes t.number xs → b ≡ nat_eq (length xs) 0 → b ≡ false
    → Side types d gs t xs
side_read types d gs t xs b tree read test not = record {
  tree = tree;
  is = read.is tree.node tree.at;
  some = nil_never xs b test not;
}

-- and as it copies it
pub side_copied : (types : TypeTable) (d : Trees) (gs : List Gate) (t : BoundedTree) (read copied xs : List Alternative)
    (b : Bool) → TreeFits d.nodes (length d.nodes) t → IsIn d.nodes t.number read → copied ≡ read → xs ≡ copied
    → (b ≡ true) ↔ (copied ≡ []) → b ≡ false → Side types d gs t xs
side_copied types d gs t read copied xs b tree in_arena copy slice test not = record {
  tree = tree;
  is = slice ∙ copy ∙ in_arena.is tree.node tree.at;
  some = λ e. not_empty copied b test not (sym slice ∙ e);
}

-- the two symbols that the code reads at a place
pub record PairRead (d : Trees) (gs : List Gate) (xs ys : List (Symbol BoundedTree)) (i : ℕ)
    (x y : Symbol BoundedTree) (s : AreOfSorts d gs xs ys) : Type 0 where
  pub here : slice_get xs i ≡ Some x
  pub there : slice_get ys i ≡ Some y
  pub pair : PairAt d gs xs ys i x y s

pub pair_read : (d : Trees) (gs : List Gate) (xs ys : List (Symbol BoundedTree)) (i : ℕ) (x y : Symbol BoundedTree)
    (s : AreOfSorts d gs xs ys) → i < length xs → x ≡ get_or xs i x → y ≡ get_or ys i y
    → PairRead d gs xs ys i x y s
pair_read d gs xs ys i x y s lt left right =
    let here = at_read xs i x lt left in
    let there = at_read ys i y (right_within d gs xs ys i s lt) right in
    record { here = here; there = there; pair = pair_at d gs xs ys i x y s here there }

-- the gates of one constructor that both sides have
pub joined_both : (types : TypeTable) (o p : Option Alternative) (x y : Alternative) (xs ys : List (Symbol BoundedTree))
    → Some x ≡ o → Some y ≡ p → xs ≡ x.fields → ys ≡ y.fields
    → joined_bits types o p ≡ 1 + pairs_bits types xs ys
joined_both types o p x y xs ys e f lefts rights =
    (λ i. joined_bits types (sym e i) (sym f i)) ∙ (λ i. 1 + pairs_bits types (sym lefts i) (sym rights i))
