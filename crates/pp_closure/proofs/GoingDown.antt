-- Numbers that go down.
use Rattle.std.proofs.Common.{◌≡◌, ◌<◌, ◌&&◌, ℕ, Bool, true, false, List, Option, Some, refl, sym, ap, ◌∙◌, subst}
use Rattle.std.proofs.Common.{length, arith}
use Rattle.std.specs.Prelude.{slice_get}
use Rattle.std.specs.Int.RustNames.{int_le, int_lt}
use Rattle.std.proofs.lemmas.Int.{ints}
use Rattle.std.proofs.lemmas.Option.{slice_get_within}
use Rattle.pp_tree.specs.declared.operator.BinaryOp.TheVariants.{Sub}
use Rattle.pp_prog.specs.declared.sort.Sort.{Sort}
use Rattle.pp_prog.specs.declared.sort.Sort.TheVariants as sort
use Rattle.pp_prog.specs.declared.value.Value.{Value}
use Rattle.pp_prog.specs.declared.value.Value.TheOpen as layer
use Rattle.pp_prog.specs.declared.value.Value.TheViews.{out-Value}
use Rattle.pp_prog.specs.Sorts.{has_sort}
use Rattle.pp_prog.proofs.PartSorts.{sum_parts}
use Rattle.pp_eval.specs.Equality.{equal}
use Rattle.pp_eval.specs.Measure.{goes_down, layer_down}
use Rattle.pp_eval.proofs.Alike.{alike}
use Rattle.pp_eval.proofs.Trees.{same_equal}
use Rattle.pp_steps.specs.declared.step.Step.{Step}
use Rattle.pp_steps.specs.declared.step.Step.TheVariants as steps
use Rattle.pp_steps.specs.Meaning.{bit}
use Rattle.pp_closure.specs.Order.{Compares, is_less, is_less_in}
use Rattle.pp_closure.specs.Steps.{int_in, is_int_sort}
use Rattle.pp_closure.specs.Sums.{whole, whole_in}
use Rattle.pp_closure.specs.Valuation.{Valuation}
use Rattle.pp_closure.proofs.Equals.{not_true}
use Rattle.pp_closure.proofs.Ordered.{compares, int_at, same_numbers}
use Rattle.pp_closure.proofs.Values.{bit_of}
use lib.IntN.{ℤ, pos}
use lib.Signed.{◌≤ℤ◌}

is_natural : (m n : ℤ) → pos 0 ≤ℤ m → (int_le (pos 0) m && int_lt m n) ≡ int_lt m n
is_natural m n h =
    let le : int_le (pos 0) m ≡ true = grind (arith, ints) in ap (λ (b : Bool). b && int_lt m n) le

down_less : (vs : Value × Value) (o q : layer.Value-F Value) (m n : ℤ) → o ≡ layer.Int m → q ≡ layer.Int n
    → pos 0 ≤ℤ m → layer_down vs o q ≡ is_less_in o q
down_less vs o q m n e f natural = rw (e, f) (is_natural m n natural)

is_int_sort_is : (s : Sort) → is_int_sort s ≡ true → s ≡ sort.Int
is_int_sort_is sort.Int h = refl
is_int_sort_is sort.Bool h = absurd (cc)
is_int_sort_is (sort.Tree d) h = absurd (cc)

module _ (ss : List Step) (v : Valuation ss) where
  pub int_sort : (k : ℕ) (o : Option Step) → slice_get ss k ≡ o → int_in o ≡ true → v.sorts k ≡ sort.Int
  int_sort k (Some (steps.Int n)) at h = (v.typed k (steps.Int n) at).0
  int_sort k (Some (steps.Answer c)) at h = (v.typed k (steps.Answer c) at).1 ∙ is_int_sort_is c.result h
  int_sort k (Some (steps.Open s)) at h = (v.typed k (steps.Open s) at).0 ∙ is_int_sort_is s h
  int_sort k (Some (steps.Binary Sub a b)) at h =
      let p = sum_parts (Some (v.sorts a)) (Some (v.sorts b)) (v.sorts k) (v.typed k (steps.Binary Sub a b) at) in
      sym p.2
  int_sort k o at h = absurd (cc)

  -- two values that are compared in a measure are of one sort
  pub alike_said : (k a b : ℕ) → slice_get ss k ≡ Some (steps.IsAlike a b) → bit (v.values k) ≡ true
  alike_said k a b at =
      let below = v.reads k (steps.IsAlike a b) at in
      let within = slice_get_within ss k (steps.IsAlike a b) at in
      let Has : Sort → Type 0 = λ s. has_sort v.types.ctors (v.values a) s ≡ true in
      let sorts = (v.typed k (steps.IsAlike a b) at).0 in
      bit_of (v.values k) _ (v.does k (steps.IsAlike a b) at)
      ∙ alike v.types.ctors (v.sorts b) (v.values a) (v.values b)
      (subst Has sorts (v.sorted a (omega (arith, below.0, within)))) (v.sorted b (omega (arith, below.1, within)))

  -- a number that isn't negative goes down where it is less
  pub descends : (k new old : ℕ) → slice_get ss k ≡ Some (steps.GoesDown new old) → v.sorts old ≡ sort.Int
      → (new < length ss → pos 0 ≤ℤ whole (v.values new))
      → Compares v.values k (record { low = new; high = old; positive = true })
  descends k new old at int natural =
      let below = v.reads k (steps.GoesDown new old) at in
      let within = slice_get_within ss k (steps.GoesDown new old) at in
      let first : new < length ss = omega (arith, below.0, within) in
      let second : old < length ss = omega (arith, below.1, within) in
      let sorts = (v.typed k (steps.GoesDown new old) at).0 in
      let a = int_at ss v new (sorts ∙ int) first in
      let b = int_at ss v old int second in
      let says : bit (v.values k) ≡ is_less (v.values new) (v.values old) =
      bit_of (v.values k) (goes_down (v.values new) (v.values old)) (v.does k (steps.GoesDown new old) at)
      ∙ down_less (v.values new, v.values old) (out-Value (v.values new)) (out-Value (v.values old)) a.number b.number
      a.is b.is (subst (λ n. pos 0 ≤ℤ n) (ap whole_in a.is) (natural first)) in
      compares ss v k (record { low = new; high = old; positive = true }) says a b first second

  -- values that aren't equal are no one number
  pub different : (a b : ℕ) → v.sorts a ≡ sort.Int → v.sorts a ≡ v.sorts b → a < length ss → b < length ss
      → equal (v.values a) (v.values b) ≡ false → whole (v.values a) ≡ whole (v.values b) → ⊥
  different a b int sorts left right differ same =
      let x = int_at ss v a int left in
      let y = int_at ss v b (sym sorts ∙ int) right in
      let one = same_numbers ss v (v.values a) (v.values b) x.number y.number x.is y.is same in
      not_true (equal (v.values a) (v.values b)) (same_equal (v.values a) (v.values b) one) differ
