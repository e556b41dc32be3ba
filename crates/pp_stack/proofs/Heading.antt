-- What is held by its outermost layer: its fields, equality, subtrees and measures.
use Rattle.std.proofs.Common.{◌≡◌, ◌∙◌, ◌↔◌, ℕ, ℤ, Bool, false, List, Option, Some, None, Ok, Err, length, refl, sym}
use Rattle.std.proofs.Common.{ap, subst, IsTrue, slice_get}
use Rattle.std.proofs.lemmas.Option.{get_or_from_slice_get, slice_get-map, slice_get_within}
use Rattle.std.specs.Option.{option_map}
use Rattle.pp_prog.specs.declared.id.CtorId.{CtorId}
use Rattle.pp_prog.specs.declared.value.Value.{Value}
use Rattle.pp_prog.specs.declared.value.Value.TheOpen as layer
use Rattle.pp_prog.specs.declared.value.Value.TheVariants.{Int, Bool as Truth, Tree, outs-Bool, outs-Int, outs-Tree}
use Rattle.pp_prog.specs.declared.value.Value.TheViews.{out-Value}
use Rattle.pp_eval.specs.declared.outcome.Stop.TheVariants.{Stuck}
use Rattle.pp_eval.specs.Equality.{below, equal}
use Rattle.pp_eval.specs.Meaning.{field, field_in}
use Rattle.pp_eval.specs.Measure.{goes_down, layer_down}
use Rattle.pp_eval.specs.Part.{Part, found}
use Rattle.pp_eval.proofs.Trees.{one_answer, trees}
use Rattle.pp_prog.specs.Values.{IsBelow}
use Rattle.pp_store.specs.declared.held.Held.{Held}
use Rattle.pp_store.specs.declared.store.Parts.{Parts}
use Rattle.pp_stack.specs.declared.head.Look.{Look}
use Rattle.pp_stack.specs.declared.head.Look.TheVariants as look
use Rattle.pp_stack.specs.Heads.{IsLook}
use Rattle.pp_store.specs.Values.{AreHeld, IsBefore, IsHeld, value_of, values_of}

-- ---- equality and subtrees

-- a test of the fact is the definition's
pub equal_is : (x y : Value) (same : Bool) → IsTrue same ↔ (x ≡ y) → equal x y ≡ same
equal_is x y same is = one_answer (x ≡ y) (equal x y) same (trees.same x y) is

pub below_is : (x y : Value) (under : Bool) → IsTrue under ↔ IsBelow x y → below x y ≡ under
below_is x y under is = one_answer (IsBelow x y) (below x y) under (trees.subtree x y) is

-- ---- fields

module _ (trees : List Value) (h : Held) (c : CtorId) (fields : List Held) (k : ℕ)
    (is : value_of trees h ≡ Tree c (values_of trees fields))
  where
    -- the field at a place is what is held there
    field_is : field (value_of trees h) k ≡ found (option_map (value_of trees) (slice_get fields k))
    field_is =
        ap (λ (l : layer.Value-F Value). field_in l k) (ap out-Value is ∙ outs-Tree c (values_of trees fields))
        ∙ ap (λ (o : Option Value). let r : Part Value = found o in r) (slice_get-map (value_of trees) fields k)

    pub field_there : (f : Held) → AreHeld trees fields → slice_get fields k ≡ Some f
        → IsHeld trees f × (field (value_of trees h) k ≡ Ok (value_of trees f))
    field_there f held at = (
      subst (λ (g : Held). IsBefore (length trees) g) (get_or_from_slice_get fields k f f at)
          (held k f (slice_get_within fields k f at)),
      field_is
          ∙ ap (λ (o : Option Held). let r : Part Value = found (option_map (value_of trees) o) in r) at,
    )

    pub no_field : slice_get fields k ≡ None → field (value_of trees h) k ≡ Err Stuck
    no_field at =
        field_is ∙ ap (λ (o : Option Held). let r : Part Value = found (option_map (value_of trees) o) in r) at

-- ---- measures

layer_of_int : (n : ℤ) (u : Value) → u ≡ Int n → out-Value u ≡ layer.Int n
layer_of_int n u e = ap out-Value e ∙ outs-Int n

layer_of_bool : (b : Bool) (u : Value) → u ≡ Truth b → out-Value u ≡ layer.Bool b
layer_of_bool b u e = ap out-Value e ∙ outs-Bool b

layer_of_tree : (c : CtorId) (fs : List Value) (u : Value) → u ≡ Tree c fs → out-Value u ≡ layer.Tree c fs
layer_of_tree c fs u e = ap out-Value e ∙ outs-Tree c fs

-- the layer that is looked at
abbrev pub looked : List Value → Look → layer.Value-F Value
looked ts (look.Int n) = layer.Int n
looked ts (look.Bool b) = layer.Bool b
looked ts (look.Tree p) = layer.Tree p.ctor (values_of ts p.fields.now)

pub looked_at : (trees : List Value) (x : Look) (v : Value) → IsLook trees x v → out-Value v ≡ looked trees x
looked_at ts (look.Int n) v is = layer_of_int n v is
looked_at ts (look.Bool b) v is = layer_of_bool b v is
looked_at ts (look.Tree p) v is = layer_of_tree p.ctor (values_of ts p.fields.now) v is.0

module _ (ts : List Value) (v w : Value) where
  abbrev down : Look → Look → Bool
  down x y = layer_down (v, w) (looked ts x) (looked ts y)

  pub by_looks : (x y : Look) → IsLook ts x v → IsLook ts y w → goes_down v w ≡ down x y
  by_looks x y is also =
      ap (λ (l : layer.Value-F Value). layer_down (v, w) l (out-Value w)) (looked_at ts x v is)
      ∙ ap (λ (l : layer.Value-F Value). layer_down (v, w) (looked ts x) l) (looked_at ts y w also)

  -- what isn't two numbers or two trees doesn't go down
  others_stay : (x y : Look) → ((a b : ℤ) → x ≡ look.Int a → y ≡ look.Int b → ⊥)
      → ((p q : Parts) → x ≡ look.Tree p → y ≡ look.Tree q → ⊥) → down x y ≡ false
  others_stay (look.Int a) (look.Int b) ints all = absurd (ints a b refl refl)
  others_stay (look.Int a) (look.Bool b) ints all = refl
  others_stay (look.Int a) (look.Tree q) ints all = refl
  others_stay (look.Bool a) y ints all = refl
  others_stay (look.Tree p) (look.Int b) ints all = refl
  others_stay (look.Tree p) (look.Bool b) ints all = refl
  others_stay (look.Tree p) (look.Tree q) ints all = absurd (all p q refl refl)

  module _ (x y : Look) (left : IsLook ts x v) (right : IsLook ts y w) where
    pub stays : ((a b : ℤ) → x ≡ look.Int a → y ≡ look.Int b → ⊥)
        → ((p q : Parts) → x ≡ look.Tree p → y ≡ look.Tree q → ⊥) → false ≡ goes_down v w
    stays ints all = sym (by_looks x y left right ∙ others_stay x y ints all)

    -- a tree goes down to what is below it
    pub tree_goes_down : (p q : Parts) → x ≡ look.Tree p → y ≡ look.Tree q → (under : Bool)
        → IsTrue under ↔ IsBelow v w → under ≡ goes_down v w
    tree_goes_down p q e f under is =
        sym (by_looks x y left right ∙ ap (λ (l : Look). down l y) e ∙ ap (λ (l : Look). down (look.Tree p) l) f
        ∙ below_is v w under is)
