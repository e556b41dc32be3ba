-- When values are equal, by what is known of them.
use Rattle.std.proofs.Common.{◌≡◌, ◌<◌, ℕ, Bool, true, false, Option, Some, List, refl, sym, ap, ◌∙◌, subst}
use Rattle.std.specs.Prelude.{length, not, slice_get}
use Rattle.pp_prog.specs.declared.sort.Sort.{Sort}
use Rattle.pp_prog.specs.declared.sort.Sort.TheVariants as sort
use Rattle.pp_prog.specs.declared.value.Value.{Value}
use Rattle.pp_prog.specs.declared.value.Value.TheOpen as layer
use Rattle.pp_prog.specs.declared.value.Value.TheVariants.{Bool as Truth, rolls-Bool}
use Rattle.pp_prog.specs.declared.value.Value.TheViews.{out-Value, roll-Value, roll-out-Value}
use Rattle.pp_prog.specs.Fits.{same_truth}
use Rattle.pp_prog.specs.Sorts.{has_sort}
use Rattle.pp_prog.proofs.ValueSorts.{bool_value}
use Rattle.pp_eval.specs.Equality.{equal}
use Rattle.pp_eval.proofs.Trees.{equal_same, same_equal}
use Rattle.pp_steps.specs.declared.step.Step.{Step}
use Rattle.pp_steps.specs.declared.step.Step.TheVariants as steps
use Rattle.pp_steps.proofs.Bits.{bit_truth}
use Rattle.pp_steps.specs.Meaning.{bit, bit_in}
use Rattle.pp_closure.specs.Steps.{is_bool, truth_in}
use Rattle.pp_closure.specs.Valuation.{Valuation}

true_value : (x : Value) → bit x ≡ true → x ≡ Truth true
true_value x = by (out-Value x) refl
  where
    by : (o : layer.Value-F Value) → out-Value x ≡ o → bit_in o ≡ true → x ≡ Truth true
    by (layer.Int n) e h = absurd (cc)
    by (layer.Bool b) e h = sym (roll-out-Value x) ∙ ap roll-Value e ∙ rolls-Bool b ∙ ap Truth h
    by (layer.Tree c fields) e h = absurd (cc)

pub not_true : (b : Bool) → b ≡ true → b ≡ false → ⊥
not_true true h g = absurd (cc)
not_true false h g = absurd (cc)

-- a step that isn't as it says where two are equal
pub differ_where : (x y : Value) (b p : Bool) → b ≡ same_truth p (equal x y) → b ≡ not p → equal x y ≡ false
differ_where x y b p says is = by p (equal x y) (sym says ∙ is)
  where
    by : (p e : Bool) → same_truth p e ≡ not p → e ≡ false
    by true e h = h
    by false true h = absurd (cc)
    by false false h = refl

pub both_true : (x y : Value) → bit x ≡ true → bit y ≡ true → equal x y ≡ true
both_true x y h g = same_equal x y (true_value x h ∙ sym (true_value y g))

pub are_one : (x y : Value) → x ≡ y → equal x y ≡ true
are_one = same_equal

pub never : (x y : Value) → (x ≡ y → ⊥) → equal x y ≡ false
never x y unlike = by (equal x y) refl
  where
    by : (b : Bool) → equal x y ≡ b → b ≡ false
    by true e = absurd (unlike (equal_same x y e))
    by false e = refl

-- a step that is as it says where two are equal
pub equal_where : (x y : Value) (b p : Bool) → b ≡ same_truth p (equal x y) → b ≡ p → x ≡ y
equal_where x y b p says is = equal_same x y (by p (sym says ∙ is))
  where
    by : (p : Bool) → same_truth p (equal x y) ≡ p → equal x y ≡ true
    by true h = h
    by false h = turned (equal x y) h
      where
        turned : (e : Bool) → not e ≡ false → e ≡ true
        turned true g = refl
        turned false g = absurd (cc)

is_bool_is : (s : Sort) → is_bool s ≡ true → s ≡ sort.Bool
is_bool_is sort.Bool h = refl
is_bool_is sort.Int h = absurd (cc)
is_bool_is (sort.Tree d) h = absurd (cc)

module _ (ss : List Step) (v : Valuation ss) where
  pub truth_sort : (k : ℕ) (o : Option Step) → slice_get ss k ≡ o → truth_in o ≡ true → v.sorts k ≡ sort.Bool
  truth_sort k (Some (steps.Answer c)) at h =
      (v.typed k (steps.Answer c) at).1 ∙ is_bool_is c.result h
  truth_sort k (Some (steps.Open s)) at h = (v.typed k (steps.Open s) at).0 ∙ is_bool_is s h
  truth_sort k (Some (steps.HasAnswer c)) at h = (v.typed k (steps.HasAnswer c) at).2
  truth_sort k (Some (steps.Bool b)) at h = v.typed k (steps.Bool b) at
  truth_sort k (Some (steps.Not a)) at h = (v.typed k (steps.Not a) at).1
  truth_sort k (Some (steps.Both a b)) at h = (v.typed k (steps.Both a b) at).2
  truth_sort k (Some (steps.IsCtor c n a)) at h = (v.typed k (steps.IsCtor c n a) at).1
  truth_sort k o at h = absurd (cc)

  pub false_value : (k : ℕ) → v.sorts k ≡ sort.Bool → k < length ss → bit (v.values k) ≡ false
      → v.values k ≡ Truth false
  false_value k e within h =
      let Has : Sort → Type 0 = λ s. has_sort v.types.ctors (v.values k) s ≡ true in
      let b = bool_value v.types.ctors (v.values k) (subst Has e (v.sorted k within)) in
      b.is ∙ ap Truth (sym (bit_truth b.truth) ∙ sym (ap bit b.is) ∙ h)

  truth_at : (k : ℕ) → v.sorts k ≡ sort.Bool → k < length ss → (t : Bool) × (v.values k ≡ Truth t)
  truth_at k e within =
      let Has : Sort → Type 0 = λ s. has_sort v.types.ctors (v.values k) s ≡ true in
      let b = bool_value v.types.ctors (v.values k) (subst Has e (v.sorted k within)) in
      (b.truth, b.is)

  -- of two truth values that differ each is what the other isn't
  pub opposite : (a b : ℕ) → v.sorts a ≡ sort.Bool → v.sorts a ≡ v.sorts b → a < length ss → b < length ss
      → equal (v.values a) (v.values b) ≡ false → bit (v.values b) ≡ not (bit (v.values a))
  opposite a b is same left right differ =
      let x = truth_at a is left in
      let y = truth_at b (sym same ∙ is) right in
      ap bit y.1 ∙ bit_truth y.0 ∙ turned x.0 y.0 (unlike x.0 y.0 x.1 y.1) ∙ ap not (sym (ap bit x.1 ∙ bit_truth x.0))
    where
      unlike : (p q : Bool) → v.values a ≡ Truth p → v.values b ≡ Truth q → p ≡ q → ⊥
      unlike p q e f h =
          not_true (equal (v.values a) (v.values b)) (same_equal _ _ (e ∙ ap Truth h ∙ sym f)) differ

      turned : (p q : Bool) → (p ≡ q → ⊥) → q ≡ not p
      turned true true h = absurd (h refl)
      turned true false h = refl
      turned false true h = refl
      turned false false h = absurd (h refl)
