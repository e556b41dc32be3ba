-- What is read of a tree: its own constructor, and the values of the fields.
use Rattle.std.proofs.Common.{◌≡◌, ℕ, zero, suc, ◌+◌, ◌<◌, ◌≤◌, Bool, true, List, [], ◌∷◌, ◌++◌, length, map, take}
use Rattle.std.proofs.Common.{get_or, Option, Some, None, refl, sym, ap, ◌∙◌, subst, arith, slice_get}
use Rattle.std.proofs.lemmas.List.{map_push}
use Rattle.std.proofs.lemmas.Option.{same_Some}
use Rattle.pp_prog.specs.declared.sort.Sort.{Sort}
use Rattle.pp_prog.specs.declared.sort.Sort.TheVariants as sort
use Rattle.pp_prog.specs.declared.types.TypeTable.{TypeTable}
use Rattle.pp_prog.specs.declared.value.Value.{Value}
use Rattle.pp_clause.specs.Literal.{lit_value}
use Rattle.pp_gate.specs.declared.gate.Gate.{Gate}
use Rattle.pp_gate.proofs.Places.{at_read}
use Rattle.pp_domain.specs.declared.symbol.Symbol.{Symbol}
use Rattle.pp_domain.specs.declared.symbol.Symbol.TheVariants as symbol
use Rattle.pp_domain.specs.Symbols.{IsSymbol}
use Rattle.pp_bounded_trees.specs.declared.arena.Alternative.{Alternative}
use Rattle.pp_bounded_trees.specs.declared.arena.Trees.{Trees}
use Rattle.pp_bounded_trees.specs.declared.arena.BoundedTree.{BoundedTree}
use Rattle.pp_bounded_trees.specs.declared.arena.Node.{Node}
use Rattle.pp_bounded_trees.specs.Alternatives.{IsIn}
use Rattle.pp_bounded_trees.specs.Arena.{FieldFits, FieldsFit, TreeFits}
use Rattle.pp_bounded_trees.specs.Meaning.{bounded_sense}
use Rattle.pp_bounded_trees.specs.Readable.{HasTrue, IsFirstTrue, IsReadable}
use Rattle.pp_bounded_trees.specs.Values.{all_values, built, field_values, symbol_value, value_among, value_at}
use Rattle.pp_bounded_trees.specs.Values.{values_of}
use Rattle.pp_bounded_trees.proofs.Alternatives.{among_own, own_of}
use Rattle.pp_bounded_trees.proofs.Candidates.{take_next}
use Rattle.pp_bounded_trees.proofs.Fields.{all_first}
use Rattle.pp_bounded_trees.proofs.Kept.{all_push}
use Rattle.pp_bounded_trees.proofs.Locality.{node_value}
use Rattle.pp_bounded_trees.proofs.Looks.{one_true}

-- what falls from a tree to its fields
abbrev pub rank : Symbol BoundedTree → ℕ
rank (symbol.Word w) = 0
rank (symbol.Bit l) = 0
rank (symbol.Tree t) = suc t.number

-- the field at a place has a sort, of which it is lower
pub record SortAt (gs : List Gate) (nodes : List Node) (k h : ℕ) (x : Symbol BoundedTree) : Type 0 where
  pub sort : Sort
  pub fits : FieldFits gs nodes k h sort x

pub sort_at : (gs : List Gate) (nodes : List Node) (k h : ℕ) (ss : List Sort) (xs : List (Symbol BoundedTree)) (j : ℕ)
    (x : Symbol BoundedTree) → FieldsFit gs nodes k h ss xs → slice_get xs j ≡ Some x → SortAt gs nodes k h x
sort_at gs nodes k h [] [] j x fits at = cc
sort_at gs nodes k h [] (y ∷ xs) j x fits at = absurd fits
sort_at gs nodes k h (s ∷ ss) [] j x fits at = absurd fits
sort_at gs nodes k h (s ∷ ss) (y ∷ xs) zero x fits at =
    record { sort = s; fits = subst (λ (z : Symbol BoundedTree). FieldFits gs nodes k h s z) (same_Some y x at) fits.0 }
sort_at gs nodes k h (s ∷ ss) (y ∷ xs) (suc j) x fits at = sort_at gs nodes k h ss xs j x fits.1 at

-- a field is a symbol of the domain, and lower than the node
pub field_is : (d : Trees) (gs : List Gate) (k h : ℕ) (s : Sort) (x : Symbol BoundedTree) → k ≤ length d.nodes
    → FieldFits gs d.nodes k h s x → IsSymbol bounded_sense d gs s x
field_is d gs k h sort.Int (symbol.Word w) in_arena fits = fits
field_is d gs k h sort.Bool (symbol.Bit l) in_arena fits = fits
field_is d gs k h (sort.Tree of) (symbol.Tree t) in_arena fits = (
  record {
    node = fits.0.node;
    at = fits.0.at;
    before = let b = fits.0.before in omega arith;
    data_of = fits.0.data_of;
    height = fits.0.height;
    most = fits.0.most;
  },
  fits.1,
)
field_is d gs k h sort.Int (symbol.Bit l) in_arena fits = absurd fits
field_is d gs k h sort.Int (symbol.Tree t) in_arena fits = absurd fits
field_is d gs k h sort.Bool (symbol.Word w) in_arena fits = absurd fits
field_is d gs k h sort.Bool (symbol.Tree t) in_arena fits = absurd fits
field_is d gs k h (sort.Tree of) (symbol.Word w) in_arena fits = absurd fits
field_is d gs k h (sort.Tree of) (symbol.Bit l) in_arena fits = absurd fits

pub field_rank : (gs : List Gate) (nodes : List Node) (k h : ℕ) (s : Sort) (x : Symbol BoundedTree)
    → FieldFits gs nodes k h s x → rank x ≤ k
field_rank gs nodes k h s (symbol.Word w) fits = omega arith
field_rank gs nodes k h s (symbol.Bit l) fits = omega arith
field_rank gs nodes k h (sort.Tree of) (symbol.Tree t) fits = let b = fits.0.before in omega arith
field_rank gs nodes k h sort.Int (symbol.Tree t) fits = absurd fits
field_rank gs nodes k h sort.Bool (symbol.Tree t) fits = absurd fits

-- each of the values is there
pub record ValueAt (o : Option Value) : Type 0 where
  pub value : Value
  pub is : o ≡ Some value

pub value_there : (f : Symbol BoundedTree → Option Value) (xs : List (Symbol BoundedTree)) (vs : List Value) (j : ℕ)
    (x : Symbol BoundedTree) → all_values (map f xs) ≡ Some vs → slice_get xs j ≡ Some x → ValueAt (f x)
value_there f [] vs j x all at = cc
value_there f (y ∷ xs) vs zero x all at =
    let o = all_first (f y) (map f xs) vs all in
    record { value = o.first; is = ap f (same_Some x y (sym at)) ∙ o.first_is }
value_there f (y ∷ xs) vs (suc j) x all at =
    let o = all_first (f y) (map f xs) vs all in value_there f xs o.rest j x o.rest_is at

tree_of : (types : TypeTable) (d : Trees) (a : ℕ → Bool) (t : BoundedTree) (gs : List Gate) (s : Sort)
    → IsSymbol bounded_sense d gs s (symbol.Tree t) → TreeFits d.nodes (length d.nodes) t
tree_of types d a t gs (sort.Tree of) is = is.0
tree_of types d a t gs sort.Int is = absurd is
tree_of types d a t gs sort.Bool is = absurd is

-- the fields of a tree that is read
pub record ReadTree (types : TypeTable) (d : Trees) (a : ℕ → Bool) (t : BoundedTree) (y : Alternative) : Type 0 where
  pub values : List Value
  pub stand : field_values a (values_of a d.nodes) y.fields ≡ Some values
  pub whole : value_at (values_of a d.nodes) t.number ≡ built y.ctor (field_values a (values_of a d.nodes) y.fields)
  pub fields : (j : ℕ) (x : Symbol BoundedTree) → slice_get y.fields j ≡ Some x
      → IsReadable types d a x × (rank x ≤ t.number)

module _ (types : TypeTable) (d : Trees) (a : ℕ → Bool) (t : BoundedTree)
    (readable : IsReadable types d a (symbol.Tree t)) where
  pub tree : TreeFits d.nodes (length d.nodes) t
  tree = tree_of types d a t readable.gates readable.sort readable.of

  value_of_node : value_among a (values_of a d.nodes) tree.node.alternatives ≡ Some readable.value
  value_of_node =
      sym (node_value a readable.gates types d.nodes t.number tree.node readable.fits.arena tree.at) ∙ readable.stands

  pub has_true : (xs : List Alternative) → xs ≡ tree.node.alternatives → HasTrue a xs
  has_true xs is =
      let o = own_of a (values_of a d.nodes) tree.node.alternatives readable.value value_of_node in record {
        place = o.place;
        own = o.own;
        at = ap (λ ys. slice_get ys o.place) is ∙ o.at;
        is = o.is_true;
      }

  pub read_tree : (xs : List Alternative) (p : ℕ) (y : Alternative) → xs ≡ tree.node.alternatives
      → slice_get xs p ≡ Some y → lit_value a y.lit ≡ true → ReadTree types d a t y
  read_tree xs p y is at lit = step (field_values a (values_of a d.nodes) y.fields) refl
      (sym whole ∙ readable.stands)
    where
      here : slice_get tree.node.alternatives p ≡ Some y
      here = ap (λ ys. slice_get ys p) (sym is) ∙ at

      whole : value_at (values_of a d.nodes) t.number ≡ built y.ctor (field_values a (values_of a d.nodes) y.fields)
      whole =
          node_value a readable.gates types d.nodes t.number tree.node readable.fits.arena tree.at
          ∙ among_own a (values_of a d.nodes) tree.node.alternatives p y
          (one_true types readable.gates d.nodes t.number tree.node a p y
          (readable.fits.arena.each t.number tree.node tree.at) readable.gives here) here lit

      own_fields : (vs : List Value) → field_values a (values_of a d.nodes) y.fields ≡ Some vs → (j : ℕ)
          (x : Symbol BoundedTree) → slice_get y.fields j ≡ Some x → IsReadable types d a x × (rank x ≤ t.number)
      own_fields vs stand j x at_field =
          let fits = (readable.fits.arena.each t.number tree.node tree.at).each p y here in
          let s = sort_at readable.gates d.nodes t.number tree.node.height fits.entry.fields y.fields j x fits.fields
          at_field in
          let v = value_there (symbol_value a (values_of a d.nodes)) y.fields vs j x stand at_field in (
            record {
              gates = readable.gates;
              fits = readable.fits;
              gives = readable.gives;
              sort = s.sort;
              of = field_is d readable.gates t.number tree.node.height s.sort x
                  (let b = tree.before in omega arith) s.fits;
              value = v.value;
              stands = v.is;
            },
            field_rank readable.gates d.nodes t.number tree.node.height s.sort x s.fits,
          )

      step : (o : Option (List Value)) → field_values a (values_of a d.nodes) y.fields ≡ o
          → built y.ctor o ≡ Some readable.value → ReadTree types d a t y
      step None stand g = cc
      step (Some vs) stand g = record {
        values = vs;
        stand = stand;
        whole = whole;
        fields = own_fields vs stand;
      }

-- one more field
pub fields_next : (f : Symbol BoundedTree → Option Value) (xs : List (Symbol BoundedTree)) (i : ℕ)
    (x : Symbol BoundedTree) (vs ws : List Value) (v : Value) → slice_get xs i ≡ Some x
    → all_values (map f (take i xs)) ≡ Some vs → f x ≡ Some v → ws ≡ vs ++ v ∷ []
    → all_values (map f (take (i + 1) xs)) ≡ Some ws
fields_next f xs i x vs ws v at all is push =
    ap (λ ys. all_values (map f ys)) (take_next xs i x at) ∙ ap all_values (map_push f (take i xs) x)
    ∙ all_push (map f (take i xs)) (f x) vs v all is ∙ ap Some (sym push)

-- from what the code has read
module _ (types : TypeTable) (d : Trees) (a : ℕ → Bool) (x : Symbol BoundedTree) (t : BoundedTree)
    (readable : IsReadable types d a x) (is : x ≡ symbol.Tree t) (xs : List Alternative)
    (all : IsIn d.nodes t.number xs) where
  readable_tree : IsReadable types d a (symbol.Tree t)
  readable_tree = subst (λ (z : Symbol BoundedTree). IsReadable types d a z) is readable

  pub some_true : HasTrue a xs
  some_true =
      let own = tree types d a t readable_tree in
      has_true types d a t readable_tree xs (all.is own.node own.at)

  pub read_own : (p : ℕ) (y : Alternative) → IsFirstTrue a xs p → p < length xs → y ≡ get_or xs p y
      → ReadTree types d a t y
  read_own p y first lt here =
      let own = tree types d a t readable_tree in
      let at = at_read xs p y lt here in
      let same : first.own ≡ y = same_Some first.own y (sym first.at ∙ at) in
      read_tree types d a t readable_tree xs p y (all.is own.node own.at) at
      (subst (λ (z : Alternative). lit_value a z.lit ≡ true) same first.is)
