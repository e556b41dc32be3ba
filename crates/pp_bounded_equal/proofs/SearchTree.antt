-- The search through the constructors of a tree, and its gates.
use Rattle.std.proofs.Common.{◌≡◌, ℕ, zero, suc, ◌+◌, ◌-◌, ◌*◌, ◌<◌, ◌≤◌, Bool, true, not, List, [], ◌∷◌, le_refl}
use Rattle.std.proofs.Common.{length, map, take, Option, Some, None, refl, sym, ap, ◌∙◌, subst, arith, slice_get, inl}
use Rattle.std.proofs.Common.{inr}
use Rattle.std.specs.Prelude.{◌↔◌}
use Rattle.std.proofs.lemmas.Bool.{both_ways, cases_Bool, cases_lt}
use Rattle.std.proofs.lemmas.Option.{same_Some, slice_get_within}
use Rattle.std.proofs.Math.Nat.{mul-le-mul_left}
use Rattle.pp_list.specs.Joined.{joined}
use Rattle.pp_prog.specs.declared.id.DataId.{DataId}
use Rattle.pp_prog.specs.declared.sort.Sort.{Sort}
use Rattle.pp_prog.specs.declared.sort.Sort.TheVariants as sort
use Rattle.pp_prog.specs.declared.types.Ctor.{Ctor}
use Rattle.pp_prog.specs.declared.types.Datatype.{Datatype}
use Rattle.pp_prog.specs.declared.types.TypeTable.{TypeTable}
use Rattle.pp_prog.specs.declared.value.Value.{Value}
use Rattle.pp_prog.specs.Sizes.{ctors_of, fields_of, nodes, sorts_in_ctor}
use Rattle.pp_clause.specs.Literal.{Literal, lit_value, opposite}
use Rattle.pp_gate.specs.declared.gate.Gate.{Gate}
use Rattle.pp_gate.specs.Circuit.{Gives, StandsFor}
use Rattle.pp_gate.specs.Growth.{Grows}
use Rattle.pp_gate.proofs.Agreement.{Gives_old}
use Rattle.pp_gate.proofs.Places.{at_some}
use Rattle.pp_bits.proofs.Growing.{IsOf_negated}
use Rattle.pp_bits.proofs.Numbers.{lit_value_negated}
use Rattle.pp_domain.specs.declared.symbol.Symbol.{Symbol}
use Rattle.pp_domain.specs.declared.symbol.Symbol.TheVariants as symbol
use Rattle.pp_bounded_trees.specs.declared.arena.Alternative.{Alternative}
use Rattle.pp_bounded_trees.specs.declared.arena.Trees.{Trees}
use Rattle.pp_bounded_trees.specs.declared.arena.BoundedTree.{BoundedTree}
use Rattle.pp_bounded_trees.specs.declared.arena.Node.{Node}
use Rattle.pp_bounded_trees.specs.Alternatives.{IsOwn, found}
use Rattle.pp_bounded_trees.specs.Arena.{FieldFits, FieldsFit}
use Rattle.pp_bounded_equal.specs.Below.{BelowBefore, IsBelowStep, IsBelowTest, IsUnder, ctor_nodes, ctors_nodes}
use Rattle.pp_bounded_equal.specs.Below.{fields_nodes, symbol_nodes, tree_nodes}
use Rattle.pp_bounded_trees.specs.Possible.{total}
use Rattle.pp_bounded_trees.specs.Meaning.{BoundedFits}
use Rattle.pp_bounded_merge.specs.Merge.{AreAlternatives, OneSide}
use Rattle.pp_bounded_trees.specs.Values.{field_values, symbol_value, value_among, values_of}
use Rattle.pp_bounded_merge.proofs.Adding.{plus_grow, total_grow}
use Rattle.pp_bounded_trees.proofs.Alternatives.{own_of, true_once}
use Rattle.pp_bounded_trees.proofs.Candidates.{ctor_in_block, in_block_ctor, take_whole, total_append, total_sum}
use Rattle.pp_bounded_trees.proofs.Candidates.{total_taken}
use Rattle.pp_bounded_trees.proofs.Found.{found_has, found_some}
use Rattle.pp_bounded_trees.proofs.Locality.{node_value}
use Rattle.pp_bounded_merge.proofs.MergedCtors.{found_ctor}
use Rattle.pp_bounded_merge.proofs.MergedTree.{Side, node_alternatives, side_one, side_order}
use Rattle.pp_bounded_equal.proofs.Searching.{below_under, under_below}
use Rattle.pp_bounded_merge.proofs.Sides.{side_high}
use Rattle.pp_list.proofs.Numbers.{less_one, none_below}

-- ---- the gates

pub nodes_grow : (types : TypeTable) (h k : ℕ) (s : Sort) → h ≤ k → nodes types h s ≤ nodes types k s
nodes_grow types zero zero s le = le_refl (nodes types zero s)
nodes_grow types zero (suc k) sort.Int le = le_refl 0
nodes_grow types zero (suc k) sort.Bool le = le_refl 0
nodes_grow types zero (suc k) (sort.Tree d) le = none_below _
nodes_grow types (suc h) zero s le = absurd (omega arith)
nodes_grow types (suc h) (suc k) sort.Int le = le_refl 0
nodes_grow types (suc h) (suc k) sort.Bool le = le_refl 0
nodes_grow types (suc h) (suc k) (sort.Tree d) le =
    plus_grow 1 _ _ _ _ (total_sum (nodes types h) (fields_of types d)) (total_sum (nodes types k) (fields_of types d))
    (total_grow (nodes types h) (nodes types k) (fields_of types d) (λ s. nodes_grow types h k s (less_one h k le)))

-- the nodes of a datatype, a constructor at a time
abbrev ctor_field_nodes : TypeTable → ℕ → Ctor → ℕ
ctor_field_nodes types h k = total (nodes types h) k.fields

nodes_joined : (types : TypeTable) (h : ℕ) (ks : List Ctor)
    → total (nodes types h) (joined (map sorts_in_ctor ks))
    ≡ total (ctor_field_nodes types h) ks
nodes_joined types h [] = refl
nodes_joined types h (k ∷ ks) =
    total_append (nodes types h) k.fields (joined (map sorts_in_ctor ks))
    ∙ ap (λ n. ctor_field_nodes types h k + n) (nodes_joined types h ks)

nodes_of_ctors : (types : TypeTable) (h : ℕ) (d : DataId)
    → nodes types (suc h) (sort.Tree d) ≡ 1 + total (ctor_field_nodes types h) (ctors_of types d)
nodes_of_ctors types h d =
    ap (λ n. 1 + n) (total_sum (nodes types h) (fields_of types d) ∙ nodes_joined types h (ctors_of types d))

pub nodes_some : (types : TypeTable) (h : ℕ) (d : DataId) → 1 ≤ h → 1 ≤ nodes types h (sort.Tree d)
nodes_some types zero d le = absurd (omega arith)
nodes_some types (suc h) d le = let e = nodes_of_ctors types h d in omega arith

module _ (types : TypeTable) (gs : List Gate) (arena : List Node) (k h : ℕ) where
  symbol_nodes_within : (s : Sort) (x : Symbol BoundedTree) → FieldFits gs arena k (suc h) s x
      → symbol_nodes types x ≤ nodes types h s
  symbol_nodes_within s (symbol.Word w) fits = omega arith
  symbol_nodes_within s (symbol.Bit l) fits = omega arith
  symbol_nodes_within (sort.Tree of) (symbol.Tree t) fits =
      let low : t.height ≤ h = (let a = fits.2 in omega arith) in
      let grow = nodes_grow types t.height h (sort.Tree of) low in
      let same = ap (λ o. nodes types t.height (sort.Tree o)) fits.1 in omega arith
  symbol_nodes_within sort.Int (symbol.Tree t) fits = absurd fits
  symbol_nodes_within sort.Bool (symbol.Tree t) fits = absurd fits

  fields_nodes_within : (ss : List Sort) (xs : List (Symbol BoundedTree)) → FieldsFit gs arena k (suc h) ss xs
      → fields_nodes types xs ≤ total (nodes types h) ss
  fields_nodes_within [] [] fits = omega arith
  fields_nodes_within [] (x ∷ xs) fits = absurd fits
  fields_nodes_within (s ∷ ss) [] fits = absurd fits
  fields_nodes_within (s ∷ ss) (x ∷ xs) fits =
      let one = symbol_nodes_within s x fits.0 in
      let rest = fields_nodes_within ss xs fits.1 in omega arith

module _ (types : TypeTable) (d : Trees) (gs : List Gate) (of : DataId) (h : ℕ) (xs : List Alternative)
    (all : AreAlternatives types d gs of (suc h) xs) where
  ctor_nodes_within : (c : ℕ) (k : Ctor) → slice_get types.ctors c ≡ Some k
      → ctor_nodes types (found c xs) ≤ ctor_field_nodes types h k
  ctor_nodes_within c k at = by (found c xs) refl
    where
      by : (o : Option Alternative) → found c xs ≡ o → ctor_nodes types o ≤ ctor_field_nodes types h k
      by None e = omega arith
      by (Some x) e =
          let p = found_ctor types d gs of h xs c x all e in
          let own : p.entry ≡ k = same_Some p.entry k (sym p.at ∙ at) in
          let w = fields_nodes_within types gs d.nodes (length d.nodes) h p.entry.fields x.fields p.fits in
          let r = ap (ctor_field_nodes types h) own in omega arith

  ctors_nodes_within : (t : Datatype) → slice_get types.datatypes of.0 ≡ Some t → (n : ℕ)
      → n ≤ length (ctors_of types of)
      → ctors_nodes types xs t.first.0 n ≤ total (ctor_field_nodes types h) (take n (ctors_of types of))
  ctors_nodes_within t is zero le = omega arith
  ctors_nodes_within t is (suc n) le =
      let before = ctors_nodes_within t is n (omega arith) in
      let k = at_some (ctors_of types of) n (omega arith) in
      let own = ctor_nodes_within (t.first.0 + n) k.0 (ctor_in_block types of t n k.0 is k.1).0 in
      let taken = total_taken (ctor_field_nodes types h) (ctors_of types of) n k.0 k.1 in
      let e : suc n ≡ n + 1 = omega arith in
      let f = ap (λ m. total (ctor_field_nodes types h) (take m (ctors_of types of))) e in
      omega arith

  pub ctors_nodes_all : (t : Datatype) → slice_get types.datatypes of.0 ≡ Some t → (m : ℕ) → suc h ≡ m → (n : ℕ)
      → n ≡ length (ctors_of types of) → ctors_nodes types xs t.first.0 n ≤ nodes types m (sort.Tree of) - 1
  ctors_nodes_all t is m high n whole =
      let w = ctors_nodes_within t is n (omega arith) in
      let b = nodes_of_ctors types h of in
      let e = ap (λ k. nodes types k (sort.Tree of)) high in
      let every = ap (λ k. take k (ctors_of types of)) whole ∙ take_whole (ctors_of types of) in
      let f = ap (total (ctor_field_nodes types h)) every in
      omega arith

pub ctors_nodes_next : (types : TypeTable) (xs : List Alternative) (first n : ℕ)
    → ctors_nodes types xs first (n + 1) ≡ ctors_nodes types xs first n + ctor_nodes types (found (first + n) xs)
ctors_nodes_next types xs first n = let e : n + 1 ≡ suc n = omega arith in ap (ctors_nodes types xs first) e

pub ctors_nodes_grow : (types : TypeTable) (xs : List Alternative) (first n m : ℕ) → n ≤ m
    → ctors_nodes types xs first n ≤ ctors_nodes types xs first m
ctors_nodes_grow types xs first n zero le = let e : n ≡ 0 = omega arith in
    let f = ap (ctors_nodes types xs first) e in omega arith
ctors_nodes_grow types xs first n (suc m) le = elim (cases_lt m n) [
  | inl above ↦ (let e : n ≡ suc m = omega arith in let f = ap (ctors_nodes types xs first) e in omega arith)
  | inr within ↦ (let r = ctors_nodes_grow types xs first n m within in omega arith)
]

-- products
pub times_plus : (w a b c : ℕ) → a ≡ b + c → w * a ≡ w * b + w * c
times_plus w a b c e = ap (λ n. w * n) e ∙ search Rattle.std.proofs.Common.rules

pub times_grow : (w a b : ℕ) → a ≤ b → w * a ≤ w * b
times_grow w a b le = mul-le-mul_left w le

pub times_one : (w n : ℕ) → 1 ≤ n → w * n ≡ w * (n - 1) + w
times_one w n some = let e : n ≡ n - 1 + 1 = omega arith in times_plus w n (n - 1) 1 e ∙ times_unit w (n - 1)
  where
    times_unit : (w m : ℕ) → w * m + w * 1 ≡ w * m + w
    times_unit w m = omega arith

-- ---- the constructors

module _ (types : TypeTable) (d : Trees) (gs fs hs : List Gate) (k m : ℕ) (fits : BoundedFits types d gs)
    (grown : Grows gs fs k) (adds : Grows fs hs m) (new old : BoundedTree) (xs : List Alternative)
    (side : Side types d gs old xs) (first i : ℕ) (any more : Literal)
    (before : BelowBefore d fs new xs first i any) (step : IsBelowStep d hs new xs (first + i) any more) where
  module _ (a : ℕ → Bool) (v w : Value) (o : IsOwn a (values_of a d.nodes) xs w) (gives : Gives a hs)
      (new_is : symbol_value a (values_of a d.nodes) (symbol.Tree new) ≡ Some v) where
    gives_fs : Gives a fs
    gives_fs = Gives_old fs hs m adds a gives

    was : (lit_value a any ≡ true) ↔ (IsUnder v o.fields × (o.own.ctor.0 < first + i))
    was = before.means a v w o gives_fs new_is

    on_side : found o.own.ctor.0 xs ≡ Some o.own
    on_side = found_has o.own.ctor.0 xs o.place o.own (side_order types d gs fits old xs side) o.at refl

    -- what is true is the own one
    its_own : (x : Alternative) → found (first + i) xs ≡ Some x → lit_value a x.lit ≡ true → x ≡ o.own
    its_own x has is =
        let f = found_some (first + i) xs x has in
        let place = true_once a xs f.place o.place x o.own
        (side_one types d gs fits old xs side a (Gives_old gs fs k grown a gives_fs)) f.at is o.at o.is_true in
        same_Some x o.own (sym f.at ∙ ap (slice_get xs) place ∙ o.at)

    unchanged : lit_value a more ≡ lit_value a any → (o.own.ctor.0 ≡ first + i → ⊥)
        → (lit_value a more ≡ true) ↔ (IsUnder v o.fields × (o.own.ctor.0 < first + (i + 1)))
    unchanged e differ = (
      λ is. let r = was.0 (sym e ∙ is) in (r.0, (let l = r.1 in omega arith)),
      λ both. elim (cases_lt o.own.ctor.0 (first + i)) [
        | inl less ↦ e ∙ was.1 (both.0, less)
        | inr past ↦ absurd (differ (let l = both.1 in omega arith))
      ],
    )

    one_step : (q : Option Alternative) → found (first + i) xs ≡ q
        → (lit_value a more ≡ true) ↔ (IsUnder v o.fields × (o.own.ctor.0 < first + (i + 1)))
    one_step None e = unchanged (ap (lit_value a) (step.absent e)) (λ n.
        let no : Some o.own ≡ None = sym on_side ∙ ap (λ c. found c xs) n ∙ e in cc)
    one_step (Some x) e = elim (cases_Bool (lit_value a x.lit)) [
      | inr off ↦ unchanged ((step.there x e).off a gives off) (λ n.
          let same : o.own ≡ x = same_Some o.own x (sym on_side ∙ ap (λ c. found c xs) n ∙ e) in
          both_ways _ off (ap (λ (z : Alternative). lit_value a z.lit) (sym same) ∙ o.is_true))
      | inl on ↦
          let same = its_own x e on in
          let f = found_some (first + i) xs x e in
          let c : o.own.ctor.0 ≡ first + i = ap (λ (z : Alternative). z.ctor.0) (sym same) ∙ f.ctor in
          let stand = ap (λ (z : Alternative). field_values a (values_of a d.nodes) z.fields) same ∙ o.stand in
          let t = (step.there x e).on a v o.fields gives on new_is stand in (
            λ is. elim (t.0 is) [
              | inl any_is ↦ absurd (let l = (was.0 any_is).1 in omega arith)
              | inr under ↦ (under, omega (arith, c))
            ],
            λ both. t.1 (inr both.0),
          )
    ]

  pub BelowBefore_next : BelowBefore d hs new xs first (i + 1) more
  BelowBefore_next = record {
    of = step.of;
    means = λ a v w o gives new_is. one_step a v w o gives new_is (found (first + i) xs) refl;
  }

pub BelowBefore_none : (d : Trees) (gs : List Gate) (new : BoundedTree) (xs : List Alternative) (first : ℕ)
    (truth l : Literal) → (low : (a : ℕ → Bool) (w : Value) (o : IsOwn a (values_of a d.nodes) xs w)
    → first ≤ o.own.ctor.0)
    → StandsFor gs truth (λ s. true) → l ≡ opposite truth → BelowBefore d gs new xs first 0 l
BelowBefore_none d gs new xs first truth l low is_true negated = record {
  of = IsOf_negated gs l truth negated is_true.of;
  means = λ a v w o gives new_is. (
    λ is. absurd (both_ways _ (lit_value_negated a l truth negated ∙ ap not (is_true.value a gives)) is),
    λ both. absurd (let h = low a w o in let lt = both.1 in omega arith),
  );
}

module _ (types : TypeTable) (d : Trees) (gs hs : List Gate) (fits : BoundedFits types d gs) (new old : BoundedTree)
    (xs : List Alternative) (side : Side types d gs old xs) (info : Datatype)
    (at_info : slice_get types.datatypes old.of.0 ≡ Some info) where
  pub own_in_block : (a : ℕ → Bool) (w : Value) (o : IsOwn a (values_of a d.nodes) xs w)
      → (info.first.0 ≤ o.own.ctor.0) × (o.own.ctor.0 < info.first.0 + length (ctors_of types old.of))
  own_in_block a w o =
      let own = (fits.arena.each old.number side.tree.node side.tree.at).each o.place o.own
      (ap (λ zs. slice_get zs o.place) (sym side.is) ∙ o.at) in
      let b = in_block_ctor types old.of o.own.ctor.0 own.entry own.at (own.data_of ∙ side.tree.data_of) in
      let same : b.datatype ≡ info = same_Some b.datatype info (sym b.at_data ∙ at_info) in
      let n = b.number ∙ ap (λ (t : Datatype). t.first.0 + b.place) same in
      let within = slice_get_within (ctors_of types old.of) b.place own.entry b.at in
      (omega arith, omega arith)

  -- all of them
  pub below_all : (count : ℕ) (any : Literal) → count ≡ length (ctors_of types old.of)
      → BelowBefore d hs new xs info.first.0 count any → IsBelowTest d hs new old any
  below_all count any whole before = record {
    of = before.of;
    means = λ a v w gives one other.
        let o : IsOwn a (values_of a d.nodes) xs w = own_of a (values_of a d.nodes) xs w
        (ap (value_among a (values_of a d.nodes)) side.is
        ∙ sym (node_value a gs types d.nodes old.number side.tree.node fits.arena side.tree.at) ∙ other) in
        let m = before.means a v w o gives one in (
          λ is. under_below v w o.own.ctor o.fields o.value (m.0 is).0,
          λ b. m.1 (below_under v w o.own.ctor o.fields o.value b, (let n = (own_in_block a w o).1 in omega arith)),
        );
  }

  -- the constructors of the tree
  abbrev pub one_side : OneSide types d gs xs
  one_side = record {
    of = old.of;
    h = old.height - 1;
    all = subst (λ zs. AreAlternatives types d gs old.of (suc (old.height - 1)) zs) (sym side.is)
        (node_alternatives types d gs old old.of (suc (old.height - 1)) fits side.tree refl (omega arith));
  }

  pub side_nodes : (n : ℕ) → n ≡ length (ctors_of types old.of)
      → ctors_nodes types xs info.first.0 n ≤ tree_nodes types old - 1
  side_nodes n whole =
      let p = side_high types d gs fits old xs side in
      ctors_nodes_all types d gs old.of (old.height - 1) xs one_side.all info at_info old.height (omega arith) n whole
