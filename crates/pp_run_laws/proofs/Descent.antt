-- Measure values go down in weight: numbers that aren't negative, heights of trees.
use Rattle.std.proofs.Common.{◌≡◌, ◌⊎◌, ℕ, zero, suc, ◌<◌, ◌≤◌, ℤ, pos, Bool, ◌&&◌, ◌||◌, true, false, List, [], ◌∷◌}
use Rattle.std.proofs.Common.{map, length, refl, ap, subst, arith, inl, inr, ⊎_elim, Contains}
use Rattle.std.specs.Prelude.{int_le, int_lt, negsuc}
use Rattle.std.proofs.lemmas.Bool.{and_parts, ltb-true}
use Rattle.std.proofs.lemmas.List.{length-map}
use Rattle.pp_prog.specs.declared.types.Ctor.{Ctor}
use Rattle.pp_prog.specs.declared.value.Value.{Value}
use Rattle.pp_prog.specs.declared.value.Value.TheOpen as layer
use Rattle.pp_prog.specs.declared.value.Value.TheViews.{out-Value}
use Rattle.pp_prog.specs.Values.{IsBelow, greatest, height, is_deeper, is_field}
use Rattle.pp_prog.proofs.Values.{height_of_tree}
use Rattle.pp_eval.specs.Equality.{equal}
use Rattle.pp_eval.specs.Measure.{falls, goes_down, is_below, layer_down, of_one_shape, one_sort}
use Rattle.pp_eval.proofs.Trees.{equal_same, true_below}
use Rattle.pp_run_laws.specs.Laws.{MeasuresEnd}
use Rattle.pp_run_laws.proofs.Lists.{Less, by_lists}

-- a field is at most as high as the highest
field_low : (fields : List Value) (t : Value) → Contains fields t → height t ≤ greatest (map height fields)
field_low [] t has = absurd (omega (arith, has.1))
field_low (f ∷ fs) t (zero, lt, is) = omega (arith, ap height is)
field_low (f ∷ fs) t (suc k, lt, is) = omega (arith, field_low fs t (k, omega (arith, lt), is))

-- a proper subtree is lower
pub below_lower : (t u : Value) → IsBelow t u → height t < height u
below_lower t u (is_field c fields e has) = omega (arith, ap height e, height_of_tree c fields, field_low fields t has)
below_lower t u (is_deeper {v = v} c fields e has b) =
    omega (arith, ap height e, height_of_tree c fields, field_low fields v has, below_lower t v b)

abbrev natural : ℤ → ℕ
natural (pos n) = n
natural (negsuc n) = 0

natural_down : (a b : ℤ) → int_le (pos 0) a ≡ true → int_lt a b ≡ true → natural a < natural b
natural_down (pos a) (pos b) h k = ltb-true a b k
natural_down (pos a) (negsuc b) h k = cc
natural_down (negsuc a) b h k = cc

-- the weight of a component
abbrev weigh : Value → layer.Value-F Value → ℕ
weigh v (layer.Int n) = natural n
weigh v (layer.Bool b) = 0
weigh v (layer.Tree c fields) = height v

abbrev weight : Value → ℕ
weight v = weigh v (out-Value v)

layer_lower : (x y : Value) (a b : layer.Value-F Value) → layer_down (x, y) a b ≡ true → weigh x a < weigh y b
layer_lower x y (layer.Int n) (layer.Int m) h =
    let p = and_parts (int_le (pos 0) n) (int_lt n m) h in natural_down n m p.0 p.1
layer_lower x y (layer.Int n) (layer.Bool b) h = cc
layer_lower x y (layer.Int n) (layer.Tree d fields) h = cc
layer_lower x y (layer.Bool a) b h = cc
layer_lower x y (layer.Tree c fields) (layer.Int m) h = cc
layer_lower x y (layer.Tree c fields) (layer.Bool b) h = cc
layer_lower x y (layer.Tree c fields) (layer.Tree d others) h = below_lower x y (true_below x y h)

or_cases : (a b : Bool) → (a || b) ≡ true → (a ≡ true) ⊎ (b ≡ true)
or_cases true b h = inl refl
or_cases false b h = inr h

module _ (ctors : List Ctor) where
  same_length : (new old : List Value) → of_one_shape ctors new old ≡ true → length new ≡ length old
  same_length [] [] h = refl
  same_length [] (y ∷ ys) h = cc
  same_length (x ∷ xs) [] h = cc
  same_length (x ∷ xs) (y ∷ ys) h =
      ap suc (same_length xs ys (and_parts (one_sort ctors (out-Value x) (out-Value y)) _ h).1)

  falls_less : (new old : List Value) → falls new old ≡ true → Less (map weight new) (map weight old)
  falls_less [] old h = cc
  falls_less (x ∷ xs) [] h = cc
  falls_less (x ∷ xs) (y ∷ ys) h =
      ⊎_elim (λ d. inl (layer_lower x y (out-Value x) (out-Value y) d))
      (λ r. let p = and_parts (equal x y) (falls xs ys) r in inr (ap weight (equal_same x y p.0), falls_less xs ys p.1))
      (or_cases (goes_down x y) (equal x y && falls xs ys) h)

  -- what holds of measure values where it holds of all that are below them
  abbrev Goes : (List Value → Type 0) → Type 0
  Goes Q = (old : List Value) → ((new : List Value) → is_below ctors new old ≡ true → Q new) → Q old

  -- the order of measure lists is well-founded
  pub by_measure : (Q : List Value → Type 0) → Goes Q → (old : List Value) → Q old
  by_measure Q go old =
      by_lists (length old) (λ ns. (vs : List Value) → map weight vs ≡ ns → Q vs)
      (λ ns same less vs e. go vs (λ new h.
      let p = and_parts (of_one_shape ctors new vs) (falls new vs) h in
      less (map weight new) (omega (
        arith,
        length-map new weight,
        same_length new vs p.0,
        length-map vs weight,
        ap
            (length {A = ℕ}) e,
        same,
      ))
      (subst (Less (map weight new)) e (falls_less new vs p.1)) new refl))
      (map weight old) (length-map old weight) old refl

pub measures_end : MeasuresEnd
measures_end = record {
  lower = below_lower;
  ends = λ ctors values falls.
      by_measure ctors (λ vs. (i : ℕ) → values i ≡ vs → ⊥) (λ old below i e. below (values (suc i))
      (subst (λ vs. is_below ctors (values (suc i)) vs ≡ true) e (falls i)) (suc i) refl) (values 0) 0 refl;
}
