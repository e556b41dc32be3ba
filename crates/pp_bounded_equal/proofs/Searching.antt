-- The search through the fields of a constructor.
use Rattle.std.proofs.Common.{◌≡◌, ℕ, zero, suc, ◌&&◌, ◌||◌, ◌⊎◌, Bool, true, false, List, [], ◌∷◌, ◌++◌, length, map}
use Rattle.std.proofs.Common.{Option, Some, Contains, refl, sym, ap, ◌∙◌, subst, slice_get, inl, inr}
use Rattle.std.proofs.lemmas.Option.{get_or_from_slice_get, same_Some, slice_get-get_or, slice_get_within}
use Rattle.std.proofs.lemmas.Bool.{and_from, and_parts, or_left, or_right}
use Rattle.std.proofs.lemmas.List.{map_push}
use Rattle.pp_prog.specs.declared.id.CtorId.{CtorId}
use Rattle.pp_prog.specs.declared.id.DataId.{DataId}
use Rattle.pp_prog.specs.declared.types.Ctor.{Ctor}
use Rattle.pp_prog.specs.declared.types.TypeTable.{TypeTable}
use Rattle.pp_prog.specs.declared.value.Value.{Value}
use Rattle.pp_prog.specs.declared.value.Value.TheVariants.{Int, Bool as Truth, Tree, outs-Int, outs-Bool, outs-Tree}
use Rattle.pp_prog.specs.declared.value.Value.TheViews.{out-Value}
use Rattle.pp_prog.specs.Values.{IsBelow, is_field, is_deeper}
use Rattle.pp_prog.proofs.Values.{below_tree}
use Rattle.pp_clause.specs.Literal.{Literal, lit_value}
use Rattle.pp_gate.specs.declared.gate.Gate.{Gate}
use Rattle.pp_gate.specs.Circuit.{IsOf, StandsFor}
use Rattle.pp_gate.specs.Growth.{AddsGates}
use Rattle.pp_gate.proofs.Agreement.{Gives_old}
use Rattle.pp_gate.proofs.Places.{at_left, at_next, at_push}
use Rattle.pp_domain.specs.declared.symbol.Symbol.{Symbol}
use Rattle.pp_domain.specs.declared.symbol.Symbol.TheVariants as symbol
use Rattle.pp_bounded_trees.specs.declared.arena.Trees.{Trees}
use Rattle.pp_bounded_trees.specs.declared.arena.BoundedTree.{BoundedTree}
use Rattle.pp_bounded_trees.specs.Arena.{TreeFits}
use Rattle.pp_bounded_equal.specs.Below.{AreUnderTest, IsBelowTest, IsUnder, IsUnderTest}
use Rattle.pp_bounded_equal.specs.Equal.{IsEqualTest}
use Rattle.pp_bounded_trees.specs.Meaning.{BoundedFits}
use Rattle.pp_bounded_trees.specs.Values.{all_values, symbol_value, value_at, values_of}
use Rattle.pp_bounded_trees.proofs.Alternatives.{own_of}
use Rattle.pp_bounded_trees.proofs.Fields.{all_first}
use Rattle.pp_bounded_trees.proofs.Kept.{last_of_all}
use Rattle.pp_bounded_trees.proofs.Locality.{node_value}
use Rattle.pp_prog.proofs.Values.{same_ctor}

-- ---- values

-- a tree's value has a constructor of its datatype
pub record DataValue (types : TypeTable) (t : BoundedTree) (v : Value) : Type 0 where
  pub ctor : CtorId
  pub fields : List Value
  pub is : v ≡ Tree ctor fields
  pub entry : Ctor
  pub at : slice_get types.ctors ctor.0 ≡ Some entry
  pub data_of : entry.of ≡ t.of

pub data_value : (types : TypeTable) (d : Trees) (gs : List Gate) (t : BoundedTree) (a : ℕ → Bool) (v : Value)
    → BoundedFits types d gs → TreeFits d.nodes (length d.nodes) t
    → value_at (values_of a d.nodes) t.number ≡ Some v → DataValue types t v
data_value types d gs t a v fits tree is =
    let o = own_of a (values_of a d.nodes) tree.node.alternatives v
    (sym (node_value a gs types d.nodes t.number tree.node fits.arena tree.at) ∙ is) in
    let own = (fits.arena.each t.number tree.node tree.at).each o.place o.own o.at in
    record {
      ctor = o.own.ctor;
      fields = o.fields;
      is = o.value;
      entry = own.entry;
      at = own.at;
      data_of = own.data_of ∙ tree.data_of;
    }

-- trees of different datatypes have different values
pub data_differ : (types : TypeTable) (t u : BoundedTree) (v w : Value) → DataValue types t v → DataValue types u w
    → (t.of.0 ≡ u.of.0 → ⊥) → v ≡ w → ⊥
data_differ types t u v w p q differ e =
    let c = same_ctor p.ctor q.ctor p.fields q.fields (sym p.is ∙ e ∙ q.is) in
    let same : p.entry ≡ q.entry = same_Some p.entry q.entry
    (sym p.at ∙ ap (λ (b : CtorId). slice_get types.ctors b.0) c ∙ q.at) in
    differ (ap (λ (x : DataId). x.0) (sym p.data_of ∙ ap (λ (k : Ctor). k.of) same ∙ q.data_of))

int_no_tree : (n : _) (c : CtorId) (fs : List Value) → Int n ≡ Tree c fs → ⊥
int_no_tree n c fs e = let o = sym (outs-Int n) ∙ ap out-Value e ∙ outs-Tree c fs in cc

truth_no_tree : (b : Bool) (c : CtorId) (fs : List Value) → Truth b ≡ Tree c fs → ⊥
truth_no_tree b c fs e = let o = sym (outs-Bool b) ∙ ap out-Value e ∙ outs-Tree c fs in cc

below_int : (v w : Value) (n : _) → w ≡ Int n → IsBelow v w → ⊥
below_int v w n is (is_field c fs e has) = int_no_tree n c fs (sym is ∙ e)
below_int v w n is (is_deeper c fs e has b) = int_no_tree n c fs (sym is ∙ e)

below_truth : (v w : Value) (b : Bool) → w ≡ Truth b → IsBelow v w → ⊥
below_truth v w b is (is_field c fs e has) = truth_no_tree b c fs (sym is ∙ e)
below_truth v w b is (is_deeper c fs e has d) = truth_no_tree b c fs (sym is ∙ e)

-- below a tree is what is one of its fields, or below one
pub under_below : (v w : Value) (c : CtorId) (fs : List Value) → w ≡ Tree c fs → IsUnder v fs → IsBelow v w
under_below v w c fs is under = elim under.3 [
  | inl e ↦ is_field c fs is (subst (λ u. Contains fs u) (sym e) has)
  | inr b ↦ is_deeper c fs is has b
]
  where
    has : Contains fs under.1
    has = (
      under.0,
      slice_get_within fs under.0 under.1 under.2,
      get_or_from_slice_get fs under.0 under.1 under.1 under.2,
    )

pub below_under : (v w : Value) (c : CtorId) (fs : List Value) → w ≡ Tree c fs → IsBelow v w → IsUnder v fs
below_under v w c fs is b =
    let p = below_tree v w c fs is b in
    (p.1.0, p.0, slice_get-get_or fs p.1.0 p.0 p.1.1 ∙ ap Some p.1.2, p.2)

-- one more value
under_push : (v : Value) (ws : List Value) (w : Value) → IsUnder v (ws ++ w ∷ []) → IsUnder v ws ⊎ ((v ≡ w) ⊎
    IsBelow v w)
under_push v ws w under = elim (at_push ws w under.0 under.1 under.2) [
  | inl old ↦ inl (under.0, under.1, old, under.3)
  | inr new ↦ inr (subst (λ u. (v ≡ u) ⊎ IsBelow v u) (sym new.1) under.3)
]

under_old : (v : Value) (ws : List Value) (w : Value) → IsUnder v ws → IsUnder v (ws ++ w ∷ [])
under_old v ws w under = (under.0, under.1, at_left ws (w ∷ []) under.0 under.1 under.2, under.3)

under_new : (v : Value) (ws : List Value) (w : Value) → (v ≡ w) ⊎ IsBelow v w → IsUnder v (ws ++ w ∷ [])
under_new v ws w is = (length ws, w, at_next ws [] w, is)

-- ---- fields

pub AreUnderTest_none : (d : Trees) (hs : List Gate) (new : BoundedTree) (lit any : Literal) → IsOf hs any
    → AreUnderTest d hs new lit any any []
AreUnderTest_none d hs new lit any of = record {
  of = of;
  off = λ a gives is. refl;
  on = λ a v ws gives is one are. (
    λ t. inl t,
    λ s. elim s [
      | inl t ↦ t
      | inr under ↦ absurd (nothing ws are under.0 under.1 under.2)
    ],
  );
}
  where
    nothing : (ws : List Value) → Some [] ≡ Some ws → (j : ℕ) (w : Value) → slice_get ws j ≡ Some w → ⊥
    nothing [] e j w at = cc
    nothing (u ∷ ws) e j w at = cc

pub AreUnderTest_push : (d : Trees) (gs hs : List Gate) (k : ℕ) (new : BoundedTree) (lit any mid more : Literal)
    (xs : List (Symbol BoundedTree)) (x : Symbol BoundedTree) → AddsGates gs hs k → AreUnderTest d gs new lit any mid xs
    → AreUnderTest d hs new lit mid more (x ∷ []) → AreUnderTest d hs new lit any more (xs ++ x ∷ [])
AreUnderTest_push d gs hs k new lit any mid more xs x adds all one = record {
  of = one.of;
  off = λ a gives is. one.off a gives is ∙ all.off a (Gives_old gs hs k adds.grows a gives) is;
  on = λ a v ws gives is new_is are.
      let f = value_of a in
      let l = last_of_all (map f xs) (f x) ws (sym (ap all_values (map_push f xs x)) ∙ are) in
      let old = all.on a v l.firsts (Gives_old gs hs k adds.grows a gives) is new_is l.firsts_are in
      let last = one.on a v (l.last ∷ []) gives is new_is
      (ap (λ o. all_values (o ∷ [])) l.last_is) in (
        λ t. elim (last.0 t) [
          | inl m ↦ elim (old.0 m) [
            | inl s ↦ inl s
            | inr u ↦ inr (subst (IsUnder v) (sym l.whole) (under_old v l.firsts l.last u))
          ]
          | inr u ↦ inr (subst (IsUnder v) (sym l.whole) (under_new v l.firsts l.last (only v l.last u)))
        ],
        λ s. elim s [
          | inl t ↦ last.1 (inl (old.1 (inl t)))
          | inr u ↦ elim (under_push v l.firsts l.last (subst (IsUnder v) l.whole u)) [
            | inl early ↦ last.1 (inl (old.1 (inr early)))
            | inr late ↦ last.1 (inr (0, l.last, refl, late))
          ]
        ],
      );
}
  where
    value_of : (ℕ → Bool) → Symbol BoundedTree → Option Value
    value_of a z = symbol_value a (values_of a d.nodes) z

    only : (v w : Value) → IsUnder v (w ∷ []) → (v ≡ w) ⊎ IsBelow v w
    only v w (zero, u, at, is) = subst (λ z. (v ≡ z) ⊎ IsBelow v z) (same_Some u w (sym at)) is
    only v w (suc j, u, at, is) = cc

module _ (types : TypeTable) (d : Trees) (gs : List Gate) (fits : BoundedFits types d gs) (new : BoundedTree)
    (tree : TreeFits d.nodes (length d.nodes) new) (hs : List Gate) (lit any : Literal) (of : IsOf hs any) where
  -- nothing is below a number or a truth value, nor below what stands for nothing
  pub AreUnderTest_leaf : (x : Symbol BoundedTree)
      → ((a : ℕ → Bool) (v w : Value) → DataValue types new v → symbol_value a (values_of a d.nodes) x ≡ Some w
      → ((v ≡ w) ⊎ IsBelow v w) → ⊥) → AreUnderTest d hs new lit any any (x ∷ [])
  AreUnderTest_leaf x never = record {
    of = of;
    off = λ a gives is. refl;
    on = λ a v ws gives is new_is are. (
      λ t. inl t,
      λ s. elim s [
        | inl t ↦ t
        | inr under ↦
            let o = all_first (symbol_value a (values_of a d.nodes) x) [] ws are in
            absurd (never a v o.first (data_value types d gs new a v fits tree new_is) o.first_is
            (only v ws o.first (o.whole ∙ ap (λ us. o.first ∷ us) (list_same o.rest [] (sym o.rest_is))) under))
      ],
    );
  }
    where
      list_same : (xs ys : List Value) → Some xs ≡ Some ys → xs ≡ ys
      list_same xs ys e = cc

      single : (v w : Value) → IsUnder v (w ∷ []) → (v ≡ w) ⊎ IsBelow v w
      single v w (zero, u, at, is) = subst (λ z. (v ≡ z) ⊎ IsBelow v z) (same_Some u w (sym at)) is
      single v w (suc j, u, at, is) = cc

      only : (v : Value) (ws : List Value) (w : Value) → ws ≡ w ∷ [] → IsUnder v ws → (v ≡ w) ⊎ IsBelow v w
      only v ws w e under = single v w (subst (IsUnder v) e under)

  pub under_word : (l : List Literal) → AreUnderTest d hs new lit any any (symbol.Word l ∷ [])
  under_word l = AreUnderTest_leaf (symbol.Word l) (λ a v w data_is is rel. elim rel [
    | inl e ↦ int_no_tree _ data_is.ctor data_is.fields (same_Some _ w is ∙ sym e ∙ data_is.is)
    | inr b ↦ below_int v w _ (sym (same_Some _ w is)) b
  ])

  pub under_bit : (l : Literal) → AreUnderTest d hs new lit any any (symbol.Bit l ∷ [])
  under_bit l = AreUnderTest_leaf (symbol.Bit l) (λ a v w data_is is rel. elim rel [
    | inl e ↦ truth_no_tree _ data_is.ctor data_is.fields (same_Some _ w is ∙ sym e ∙ data_is.is)
    | inr b ↦ below_truth v w _ (sym (same_Some _ w is)) b
  ])

or_false : (x y : Bool) → y ≡ false → (x || y) ≡ x
or_false true y e = refl
or_false false y e = e

or_cases : (x y : Bool) → (x || y) ≡ true → (x ≡ true) ⊎ (y ≡ true)
or_cases true y e = inl refl
or_cases false y e = inr e

false_both : (x y : Bool) → x ≡ false → (x && y) ≡ false
false_both true y e = cc
false_both false y e = refl

-- a tree
pub under_field : (d : Trees) (g1 g2 hs : List Gate) (k m : ℕ) (new u : BoundedTree) (lit any under here more : Literal)
    → AddsGates g1 g2 k → AddsGates g2 hs m → IsUnderTest d g1 new u under
    → StandsFor g2 here (λ s. lit_value s lit && lit_value s under)
    → StandsFor hs more (λ s. lit_value s any || lit_value s here)
    → AreUnderTest d hs new lit any more (symbol.Tree u ∷ [])
under_field d g1 g2 hs k m new u lit any under here more first second test heres mores = record {
  of = mores.of;
  off = λ a gives is.
      mores.value a gives ∙ or_false _ _ (heres.value a (Gives_old g2 hs m second.grows a gives) ∙ false_both _ _ is);
  on = λ a v ws gives is new_is are.
      let o = all_first (symbol_value a (values_of a d.nodes) (symbol.Tree u)) [] ws are in
      let whole : ws ≡ o.first ∷ [] = o.whole ∙ ap (λ us. o.first ∷ us) (list_same o.rest [] (sym o.rest_is)) in
      let g2s = Gives_old g2 hs m second.grows a gives in
      let t = test.means a v o.first (Gives_old g1 g2 k first.grows a g2s) new_is o.first_is in (
        λ more_is. elim (or_cases _ _ (sym (mores.value a gives) ∙ more_is)) [
          | inl s ↦ inl s
          | inr h ↦
              let b = and_parts _ _ (sym (heres.value a g2s) ∙ h) in
              inr (0, o.first, ap (λ us. slice_get us 0) whole, t.0 b.1)
        ],
        λ s. mores.value a gives ∙ elim s [
          | inl any_is ↦ or_left _ _ any_is
          | inr w ↦ or_right _ _ (heres.value a g2s ∙ and_from _ _ is (t.1 (single v o.first
              (subst (IsUnder v) whole w))))
        ],
      );
}
  where
    list_same : (xs ys : List Value) → Some xs ≡ Some ys → xs ≡ ys
    list_same xs ys e = cc

    single : (v w : Value) → IsUnder v (w ∷ []) → (v ≡ w) ⊎ IsBelow v w
    single v w (zero, u, at, is) = subst (λ z. (v ≡ z) ⊎ IsBelow v z) (same_Some u w (sym at)) is
    single v w (suc j, u, at, is) = cc

-- the same or below
pub under_apart : (types : TypeTable) (d : Trees) (gs hs : List Gate) (new old : BoundedTree) (l : Literal)
    → BoundedFits types d gs → TreeFits d.nodes (length d.nodes) new → TreeFits d.nodes (length d.nodes) old
    → (new.of.0 ≡ old.of.0 → ⊥) → IsBelowTest d hs new old l → IsUnderTest d hs new old l
under_apart types d gs hs new old l fits news olds differ test = record {
  of = test.of;
  means = λ a v w gives one other. (
    λ is. inr ((test.means a v w gives one other).0 is),
    λ s. elim s [
      | inl e ↦ absurd (data_differ types new old v w (data_value types d gs new a v fits news one)
          (data_value types d gs old a w fits olds other) differ e)
      | inr b ↦ (test.means a v w gives one other).1 b
    ],
  );
}

pub under_same : (d : Trees) (g1 g2 hs : List Gate) (k m : ℕ) (new old : BoundedTree) (below same l : Literal)
    → AddsGates g1 g2 k → AddsGates g2 hs m → IsBelowTest d g1 new old below
    → IsEqualTest d g2 (symbol.Tree new) (symbol.Tree old) same
    → StandsFor hs l (λ s. lit_value s same || lit_value s below) → IsUnderTest d hs new old l
under_same d g1 g2 hs k m new old below same l first second test equal stands = record {
  of = stands.of;
  means = λ a v w gives one other.
      let g2s = Gives_old g2 hs m second.grows a gives in
      let b = test.means a v w (Gives_old g1 g2 k first.grows a g2s) one other in
      let e = equal.means a v w g2s one other in (
        λ is. elim (or_cases _ _ (sym (stands.value a gives) ∙ is)) [
          | inl s ↦ inl (e.0 s)
          | inr t ↦ inr (b.0 t)
        ],
        λ s. stands.value a gives ∙ elim s [
          | inl t ↦ or_left _ _ (e.1 t)
          | inr t ↦ or_right _ _ (b.1 t)
        ],
      );
}
