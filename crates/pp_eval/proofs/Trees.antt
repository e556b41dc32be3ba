-- The tests of trees decide equality and subtrees.
use Rattle.std.proofs.Common.{◌≡◌, ℕ, zero, suc, ℤ, Bool, true, false, List, [], ◌∷◌, map, refl, sym, ap, ◌∙◌}
use Rattle.std.proofs.Common.{subst, arith, eq-eqb, Contains, ◌⊎◌, inl, inr}
use Rattle.std.specs.Prelude.{◌↔◌, ◌||◌, nat_eq}
use Rattle.std.specs.Ordering.{int_eq}
use Rattle.std.proofs.lemmas.Bool.{and_parts, eqb-true, or_left, or_right}
use Rattle.std.proofs.lemmas.Bool.Decides.{Decides-int_eq}
use Rattle.pp_prog.specs.declared.id.CtorId.{CtorId}
use Rattle.pp_prog.specs.declared.value.Value.{Value}
use Rattle.pp_prog.specs.declared.value.Value.TheFolds.{fold-roll-Value, ind-Value, map-Value, para-roll-Value}
use Rattle.pp_prog.specs.declared.value.Value.TheOpen as layer
use Rattle.pp_prog.specs.declared.value.Value.TheVariants.{Tree, rolls-Tree}
use Rattle.pp_prog.specs.declared.value.Value.TheViews.{out-Value, roll-Value, out-roll-Value, roll-out-Value}
use Rattle.pp_prog.specs.Values.{IsBelow, is_field, is_deeper}
use Rattle.pp_prog.specs.Fits.{same_truth}
use Rattle.pp_eval.specs.Equality.{CompareTrees, at_or_under, below, below_step, equal, equal_layer, equal_step}
use Rattle.pp_eval.specs.Equality.{pass_all}

int_same : (a b : ℤ) → int_eq a b ≡ true → a ≡ b
int_same a b h = grind (arith, Decides-int_eq a b)

int_self : (a : ℤ) → int_eq a a ≡ true
int_self a = grind (arith, Decides-int_eq a a)

ctor_same : (c d : CtorId) → nat_eq c.0 d.0 ≡ true → c ≡ d
ctor_same c d h = let mk : ℕ → CtorId = λ n. record { 0 = n } in ap mk (eqb-true c.0 d.0 h)

truth_same : (a b : Bool) → same_truth a b ≡ true → a ≡ b
truth_same true b h = sym h
truth_same false true h = cc
truth_same false false h = refl

truth_self : (a : Bool) → same_truth a a ≡ true
truth_self true = refl
truth_self false = refl

abbrev Sure : Value → Type 0
Sure v = ((w : Value) → equal v w ≡ true → v ≡ w) × (equal v v ≡ true)

abbrev S : Type 0
S = (v : Value) × Sure v

all_same : (ys : List S) (ws : List Value) → pass_all (map equal (map (λ z. z.0) ys)) ws ≡ true → map (λ z. z.0) ys ≡ ws
all_same [] [] h = refl
all_same [] (w ∷ ws) h = cc
all_same (y ∷ ys) [] h = cc
all_same (y ∷ ys) (w ∷ ws) h =
    let p = and_parts _ _ h in
    let a = y.1.0 w p.0 in let b = all_same ys ws p.1 in cc

all_self : (ys : List S) → pass_all (map equal (map (λ z. z.0) ys)) (map (λ z. z.0) ys) ≡ true
all_self [] = refl
all_self (y ∷ ys) = rw (y.1.1, all_self ys) refl

level : (y : layer.Value-F S) (o : layer.Value-F Value)
    → equal_layer (map-Value Value (Value → Bool) equal (map-Value S Value (λ z. z.0) y)) o ≡ true
    → map-Value S Value (λ z. z.0) y ≡ o
level (layer.Int n) (layer.Int m) h = ap layer.Int (int_same n m h)
level (layer.Int n) (layer.Bool b) h = cc
level (layer.Int n) (layer.Tree c ws) h = cc
level (layer.Bool a) (layer.Int m) h = cc
level (layer.Bool a) (layer.Bool b) h = ap layer.Bool (truth_same a b h)
level (layer.Bool a) (layer.Tree c ws) h = cc
level (layer.Tree c ys) (layer.Int m) h = cc
level (layer.Tree c ys) (layer.Bool b) h = cc
level (layer.Tree c ys) (layer.Tree d ws) h =
    let p = and_parts _ _ h in
    let same = ctor_same c d p.0 in
    let fields = all_same ys ws p.1 in cc

self_level : (y : layer.Value-F S) → let z = map-Value S Value (λ v. v.0) y in
    equal_layer (map-Value Value (Value → Bool) equal z) z ≡ true
self_level (layer.Int n) = int_self n
self_level (layer.Bool a) = truth_self a
self_level (layer.Tree c ys) = rw (eq-eqb c.0 c.0 refl, all_self ys) refl

at_level : (y : layer.Value-F S) → Sure (roll-Value (map-Value S Value (λ z. z.0) y))
at_level y =
    let z = map-Value S Value (λ v. v.0) y in
    let one = fold-roll-Value (Value → Bool) equal_step z in (
      λ w h.
          let e = level y (out-Value w) (sym (ap (λ (f : Value → Bool). f w) one) ∙ h) in
          ap roll-Value e ∙ roll-out-Value w,
      ap (λ (f : Value → Bool). f (roll-Value z)) one ∙ ap (λ o. equal_layer (map-Value Value (Value → Bool) equal z) o)
          (out-roll-Value z) ∙ self_level y,
    )

sure : (v : Value) → Sure v
sure = ind-Value Sure (λ x y is. subst (λ z. Sure (roll-Value z)) is (at_level y))

pub equal_same : (u v : Value) → equal u v ≡ true → u ≡ v
equal_same u v h = (sure u).0 v h

pub equal_self : (v : Value) → equal v v ≡ true
equal_self v = (sure v).1

pub same_equal : (u v : Value) → u ≡ v → equal u v ≡ true
same_equal u v e = subst (λ w. equal u w ≡ true) e (equal_self u)

-- ---- subtrees

module _ (t : Value) where
  abbrev pair : Value → Value × Bool
  pair v = (v, below t v)

  below_tree : (c : CtorId) (fields : List Value) → below t (Tree c fields) ≡ at_or_under (equal t) (map pair fields)
  below_tree c fields =
      ap (below t) (sym (rolls-Tree c fields)) ∙ para-roll-Value Bool (below_step (equal t)) (layer.Tree c fields)

  -- a field that passes, or passes below, makes the test true
  passes : (fields : List Value) (v : Value) → Contains fields v → ((equal t v ≡ true) ⊎ (below t v ≡ true))
      → at_or_under (equal t) (map pair fields) ≡ true
  passes [] v (k, lt, is) h = absurd (omega (arith, lt))
  passes (x ∷ xs) v (zero, lt, is) (inl h) = or_left _ _ (ap (equal t) is ∙ h)
  passes (x ∷ xs) v (zero, lt, is) (inr h) = or_right (equal t x) _ (or_left _ _ (ap (below t) is ∙ h))
  passes (x ∷ xs) v (suc k, lt, is) h =
      or_right (equal t x) _ (or_right (below t x) _ (passes xs v (k, omega (arith, lt), is) h))

  pub below_true : {u : Value} → IsBelow t u → below t u ≡ true
  below_true {u = u} (is_field c fields e has) =
      ap (below t) e ∙ below_tree c fields ∙ passes fields t has (inl (equal_self t))
  below_true {u = u} (is_deeper {v = v} c fields e has b) =
      ap (below t) e ∙ below_tree c fields ∙ passes fields v has (inr (below_true b))

  or_cases : (a b : Bool) → a || b ≡ true → (a ≡ true) ⊎ (b ≡ true)
  or_cases true b h = inl refl
  or_cases false b h = inr h

  abbrev IsUnder : Value → Type 0
  IsUnder u = below t u ≡ true → IsBelow t u

  abbrev U : Type 0
  U = (u : Value) × IsUnder u

  -- a field that is t, or t is below
  abbrev HasUnder : List Value → Type 0
  HasUnder fields = (v : Value) × Contains fields v × ((t ≡ v) ⊎ IsBelow t v)

  more : (x : Value) (xs : List Value) → HasUnder xs → HasUnder (x ∷ xs)
  more x xs (v, (k, lt, is), h) = (v, (suc k, omega (arith, lt), is), h)

  first : (x : Value) (xs : List Value) → (t ≡ x) ⊎ IsBelow t x → HasUnder (x ∷ xs)
  first x xs h = (x, (zero, omega arith, refl), h)

  under : (ys : List U) → at_or_under (equal t) (map pair (map (λ z. z.0) ys)) ≡ true → HasUnder (map (λ z. z.0) ys)
  under [] h = cc
  under (y ∷ ys) h =
      elim (or_cases (equal t y.0) _ h) [
        | inl here ↦ first y.0 _ (inl (equal_same t y.0 here))
        | inr rest ↦ elim (or_cases (below t y.0) _ rest) [
          | inl deep ↦ first y.0 _ (inr (y.1 deep))
          | inr later ↦ more y.0 _ (under ys later)
        ]
      ]

  in_tree : (c : CtorId) (fields : List Value) → HasUnder fields → IsBelow t (Tree c fields)
  in_tree c fields (v, has, inl same) = subst (λ w. IsBelow w (Tree c fields)) (sym same) (is_field c fields refl has)
  in_tree c fields (v, has, inr deep) = is_deeper c fields refl has deep

  below_level : (y : layer.Value-F U) → below_step (equal t)
      (map-Value Value (Value × Bool) pair (map-Value U Value (λ z. z.0) y)) ≡ true
      → IsBelow t (roll-Value (map-Value U Value (λ z. z.0) y))
  below_level (layer.Int n) h = cc
  below_level (layer.Bool b) h = cc
  below_level (layer.Tree c ys) h =
      subst (λ u. IsBelow t u) (sym (rolls-Tree c (map (λ z. z.0) ys))) (in_tree c (map (λ z. z.0) ys) (under ys h))

  at_below : (y : layer.Value-F U) → IsUnder (roll-Value (map-Value U Value (λ z. z.0) y))
  at_below y h = below_level y (sym (para-roll-Value Bool (below_step (equal t)) (map-Value U Value (λ z. z.0) y)) ∙ h)

  pub true_below : (u : Value) → below t u ≡ true → IsBelow t u
  true_below = ind-Value IsUnder (λ x y is. subst (λ z. IsUnder (roll-Value z)) is (at_below y))

pub trees : CompareTrees
trees = record {
  same = λ u v. (equal_same u v, same_equal u v);
  subtree = λ t u. (true_below t u, λ b. below_true t b);
}

-- two tests of one fact agree
pub one_answer : (P : Type 0) (a b : Bool) → (a ≡ true) ↔ P → (b ≡ true) ↔ P → a ≡ b
one_answer P true true p q = refl
one_answer P true false p q = sym (q.1 (p.0 refl))
one_answer P false true p q = p.1 (q.0 refl)
one_answer P false false p q = refl
