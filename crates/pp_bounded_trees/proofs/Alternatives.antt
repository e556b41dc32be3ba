-- Where exactly one literal is true, the node has the constructor of that one, and no other.
use Rattle.std.proofs.Common.{◌≡◌, ℕ, zero, suc, ◌+◌, ◌<◌, Bool, true, false, if◌then◌else◌, List, [], ◌∷◌, Option}
use Rattle.std.proofs.Common.{Some, None, refl, sym, ap, ◌∙◌, subst, arith, slice_get, inl, inr}
use Rattle.std.proofs.lemmas.Bool.{cases_Bool, cases_order}
use Rattle.std.proofs.lemmas.Option.{same_Some}
use Rattle.pp_prog.specs.declared.value.Value.{Value}
use Rattle.pp_prog.specs.declared.value.Value.TheVariants.{Tree}
use Rattle.pp_clause.specs.Literal.{Literal, lit_value}
use Rattle.pp_bits.specs.Number.{bit, lit_bit}
use Rattle.pp_bounded_trees.specs.declared.arena.Alternative.{Alternative}
use Rattle.pp_bounded_trees.specs.Alternatives.{IsOwn}
use Rattle.pp_bounded_trees.specs.Arena.{true_among}
use Rattle.pp_bounded_trees.specs.Values.{built, field_values, value_among}

-- a literal counts one where it is true, and none where it is false
pub true_bit : (a : ℕ → Bool) (l : Literal) → lit_value a l ≡ true → lit_bit a l ≡ 1
true_bit a l e = ap bit e

pub false_bit : (a : ℕ → Bool) (l : Literal) → lit_value a l ≡ false → lit_bit a l ≡ 0
false_bit a l e = ap bit e

-- where a literal is true, the number of true ones isn't 0
some_true : (a : ℕ → Bool) (xs : List Alternative) (j : ℕ) (y : Alternative) → slice_get xs j ≡ Some y
    → lit_value a y.lit ≡ true → 0 < true_among a xs
some_true a [] j y at is = cc
some_true a (x ∷ xs) zero y at is =
    let same : x ≡ y = same_Some x y at in
    let one : lit_bit a x.lit ≡ 1 = true_bit a x.lit (subst (λ (z : Alternative). lit_value a z.lit ≡ true)
    (sym same) is) in
    omega arith
some_true a (x ∷ xs) (suc j) y at is = let h = some_true a xs j y at is in omega arith

pub true_once : (a : ℕ → Bool) (xs : List Alternative) (j k : ℕ) (y z : Alternative) → true_among a xs ≡ 1
    → slice_get xs j ≡ Some y → lit_value a y.lit ≡ true → slice_get xs k ≡ Some z → lit_value a z.lit ≡ true → j ≡ k
true_once a [] j k y z one at is other also = cc
true_once a (x ∷ xs) zero zero y z one at is other also = refl
true_once a (x ∷ xs) zero (suc k) y z one at is other also =
    let same : x ≡ y = same_Some x y at in
    let first : lit_bit a x.lit ≡ 1 = true_bit a x.lit (subst (λ (w : Alternative). lit_value a w.lit ≡ true)
    (sym same) is) in
    let more = some_true a xs k z other also in absurd (omega arith)
true_once a (x ∷ xs) (suc j) zero y z one at is other also =
    let same : x ≡ z = same_Some x z other in
    let first : lit_bit a x.lit ≡ 1 = true_bit a x.lit (subst (λ (w : Alternative). lit_value a w.lit ≡ true)
    (sym same) also) in
    let more = some_true a xs j y at is in absurd (omega arith)
true_once a (x ∷ xs) (suc j) (suc k) y z one at is other also = elim (cases_Bool (lit_value a x.lit)) [
  | inl e ↦ let first = true_bit a x.lit e in let more = some_true a xs j y at is in absurd (omega arith)
  | inr e ↦ let first = false_bit a x.lit e in
      let rest : true_among a xs ≡ 1 = omega arith in ap suc (true_once a xs j k y z rest at is other also)
]

own_step : (a : ℕ → Bool) (done : List (Option Value)) (x : Alternative) (xs : List Alternative) (v : Value)
    (o : Option (List Value))
    → field_values a done x.fields ≡ o → lit_value a x.lit ≡ true → built x.ctor o ≡ Some v → IsOwn a done (x ∷ xs) v
own_step a done x xs v None e is h = cc
own_step a done x xs v (Some vs) e is h =
    record {
      place = 0;
      own = x;
      at = refl;
      is_true = is;
      fields = vs;
      stand = e;
      value = sym
          (same_Some (Tree x.ctor vs) v h);
    }

own_later : (a : ℕ → Bool) (done : List (Option Value)) (x : Alternative) (xs : List Alternative) (v : Value)
    → IsOwn a done xs v → IsOwn a done (x ∷ xs) v
own_later a done x xs v o = record {
  place = suc o.place;
  own = o.own;
  at = o.at;
  is_true = o.is_true;
  fields = o.fields;
  stand = o.stand;
  value =
      o.value;
}

-- a node that stands for a value has a constructor of its own
pub own_of : (a : ℕ → Bool) (done : List (Option Value)) (xs : List Alternative) (v : Value)
    → value_among a done xs ≡ Some v → IsOwn a done xs v
own_of a done [] v h = cc
own_of a done (x ∷ xs) v h = step (lit_value a x.lit) refl (λ f. own_of a done xs v f) h
  where
    step : (b : Bool) → lit_value a x.lit ≡ b → (value_among a done xs ≡ Some v → IsOwn a done xs v)
        → (if b then built x.ctor (field_values a done x.fields) else value_among a done xs) ≡ Some v
        → IsOwn a done (x ∷ xs) v
    step true e rest g = own_step a done x xs v (field_values a done x.fields) refl e g
    step false e rest g = own_later a done x xs v (rest g)

-- and its value is that of the constructor whose literal is true
pub among_own : (a : ℕ → Bool) (done : List (Option Value)) (xs : List Alternative) (j : ℕ) (y : Alternative)
    → true_among a xs ≡ 1 → slice_get xs j ≡ Some y → lit_value a y.lit ≡ true
    → value_among a done xs ≡ built y.ctor (field_values a done y.fields)
among_own a done [] j y one at is = cc
among_own a done (x ∷ xs) zero y one at is =
    let same : x ≡ y = same_Some x y at in
    subst (λ (z : Alternative). value_among a done (z ∷ xs) ≡ built y.ctor (field_values a done y.fields)) (sym same)
    (ap (λ (b : Bool). if b then built y.ctor (field_values a done y.fields) else value_among a done xs) is)
among_own a done (x ∷ xs) (suc j) y one at is = elim (cases_Bool (lit_value a x.lit)) [
  | inl e ↦ let first = true_bit a x.lit e in let more = some_true a xs j y at is in absurd (omega arith)
  | inr e ↦ let first = false_bit a x.lit e in
      let rest : true_among a xs ≡ 1 = omega arith in
      ap (λ (b : Bool). if b then built x.ctor (field_values a done x.fields) else value_among a done xs) e
      ∙ among_own a done xs j y rest at is
]

-- none of the first i + 1 has the constructor, from the first i
pub before_more : (c : ℕ) (xs : List Alternative) (i : ℕ) (x : Alternative) → slice_get xs i ≡ Some x
    → (x.ctor.0 ≡ c → ⊥)
    → ((j : ℕ) (y : Alternative) → j < i → slice_get xs j ≡ Some y → y.ctor.0 ≡ c → ⊥)
    → (j : ℕ) (y : Alternative) → j < i + 1 → slice_get xs j ≡ Some y → y.ctor.0 ≡ c → ⊥
before_more c xs i x at differ before j y lt other is = elim (cases_order j i) [
  | inl e ↦ differ (ap (λ (z : Alternative). z.ctor.0) (same_Some x y
      (sym at ∙ ap (λ k. slice_get xs k) (sym e) ∙ other)) ∙ is)
  | inr o ↦ elim o [
    | inl less ↦ before j y less other is
    | inr more ↦ absurd (omega arith)
  ]
]

-- where one is true, it stands at some place
pub record TrueOne (a : ℕ → Bool) (ys : List Alternative) : Type 0 where
  pub place : ℕ
  pub own : Alternative
  pub at : slice_get ys place ≡ Some own
  pub is : lit_value a own.lit ≡ true

pub true_one : (a : ℕ → Bool) (ys : List Alternative) → true_among a ys ≡ 1 → TrueOne a ys
true_one a [] one = cc
true_one a (y ∷ ys) one = elim (cases_Bool (lit_value a y.lit)) [
  | inl e ↦ record { place = 0; own = y; at = refl; is = e }
  | inr e ↦
      let none : lit_bit a y.lit ≡ 0 = ap bit e in
      let rest = true_one a ys (omega arith) in
      record { place = suc rest.place; own = rest.own; at = rest.at; is = rest.is }
]
