-- What is known of remainders.
use Rattle.std.proofs.Common.{◌≡◌, ◌<◌, ℕ, zero, suc, false, Ok, Some, ap, subst, sym, ◌∙◌, arith}
use Rattle.std.specs.Prelude.{List, Option, length, slice_get}
use Rattle.std.specs.Int.{w32}
use Rattle.std.specs.Int.RustNames.{int_rem}
use Rattle.std.proofs.lemmas.Int.{ints}
use Rattle.std.proofs.lemmas.Nat.{mod_below}
use Rattle.std.proofs.lemmas.Option.{same_Some, slice_get_within}
use Rattle.pp_tree.specs.declared.operator.BinaryOp.TheVariants.{Rem}
use Rattle.pp_word.specs.Word.{word_rem}
use Rattle.pp_word.specs.Wrapping.{IsWord}
use Rattle.pp_prog.specs.declared.sort.Sort.TheVariants as sort
use Rattle.pp_prog.specs.declared.value.Value.{Value}
use Rattle.pp_prog.specs.declared.value.Value.TheVariants.{Int, Bool as Truth, outs-Int}
use Rattle.pp_prog.specs.declared.value.Value.TheViews.{out-Value}
use Rattle.pp_prog.proofs.PartSorts.{sum_parts}
use Rattle.pp_prog.proofs.ValueSorts.{int_value}
use Rattle.pp_eval.specs.Operators.{number, number_in}
use Rattle.pp_eval.specs.Part.{and_then}
use Rattle.pp_steps.specs.declared.step.Step.{Step}
use Rattle.pp_steps.specs.declared.step.Step.TheVariants as steps
use Rattle.pp_steps.specs.Meaning.{applied, value_or}
use Rattle.pp_closure.specs.Order.{DividesBelow, Leaves}
use Rattle.pp_closure.specs.Steps.{divisor_in}
use Rattle.pp_closure.specs.Sums.{whole}
use Rattle.pp_closure.specs.Valuation.{Valuation}
use Rattle.pp_closure.proofs.Totals.{sorted_int, sorted_word, whole_int}
use lib.IntN.{ℤ, pos, negsuc, ◌+ℤ◌}
use lib.Signed.{◌<ℤ◌, ◌≤ℤ◌}

below : (a b : ℤ) → pos 0 <ℤ b → int_rem a b <ℤ b
below (pos a) (pos zero) h = absurd (omega (arith, ints, h))
below (pos a) (pos (suc d)) h = omega (arith, ints, mod_below a (suc d) (omega arith))
below (negsuc a) (pos zero) h = absurd (omega (arith, ints, h))
below (negsuc a) (pos (suc d)) h = omega (arith, ints)
below a (negsuc d) h = absurd (omega (arith, ints, h))

natural : (a b : ℤ) → pos 0 <ℤ b → pos 0 ≤ℤ a → pos 0 ≤ℤ int_rem a b
natural (pos a) b h k = omega (arith, ints)
natural (negsuc a) b h k = absurd (omega (arith, ints, k))

most : (a b : ℤ) → pos 0 <ℤ b → pos 0 ≤ℤ a → int_rem a b ≤ℤ a
most (pos a) (pos zero) h k = absurd (omega (arith, ints, h))
most (pos a) (pos (suc d)) h k = omega (arith, ints)
most (pos a) (negsuc d) h k = absurd (omega (arith, ints, h))
most (negsuc a) b h k = absurd (omega (arith, ints, k))

leaves : (a b : ℤ) → Leaves a b (word_rem w32 a b)
unfolding word_rem
leaves a b = record { below = below a b; natural = natural a b; most = most a b }

rem_is : (v w : Value) (a b : ℤ) → v ≡ Int a → w ≡ Int b
    → value_or (Truth false) (applied Rem v w) ≡ Int (word_rem w32 a b)
rem_is v w a b e f =
    ap (λ l. value_or (Truth false) (and_then (number_in l)
    (λ m. and_then (number w) (λ n. Ok (Int (word_rem w32 m n))))))
    (ap out-Value e ∙ outs-Int a)
    ∙ ap (λ l. value_or (Truth false) (and_then (number_in l) (λ n. Ok (Int (word_rem w32 a n)))))
    (ap out-Value f ∙ outs-Int b)

module _ (ss : List Step) (v : Valuation ss) (k a b : ℕ) where
  -- the step is a remainder of words
  pub record IsRemainderAt : Type 0 where
    pub leaves : Leaves (whole (v.values a)) (whole (v.values b)) (whole (v.values k))
    pub left : IsWord w32 (whole (v.values a))
    pub right : IsWord w32 (whole (v.values b))

  pub remainder_at : slice_get ss k ≡ Some (steps.Binary Rem a b) → IsRemainderAt
  remainder_at at =
      let lt = slice_get_within ss k _ at in
      let r = v.reads k (steps.Binary Rem a b) at in
      let la : a < length ss = omega (arith, lt, r.0) in
      let lb : b < length ss = omega (arith, lt, r.1) in
      let p = sum_parts (Some (v.sorts a)) (Some (v.sorts b)) (v.sorts k) (v.typed k (steps.Binary Rem a b) at) in
      let m = int_value v.types.ctors (v.values a) (sorted_int ss v a la (same_Some (v.sorts a) sort.Int p.0)) in
      let n = int_value v.types.ctors (v.values b) (sorted_int ss v b lb (same_Some (v.sorts b) sort.Int p.1)) in
      let is = v.does k (steps.Binary Rem a b) at ∙ rem_is (v.values a) (v.values b) m.number n.number m.is n.is in
      let x = whole_int (v.values a) m.number m.is in
      let y = whole_int (v.values b) n.number n.is in
      let z = whole_int (v.values k) (word_rem w32 m.number n.number) is in
      let one = subst (λ q. Leaves m.number n.number q) (sym z) (leaves m.number n.number) in
      let two = subst (λ q. Leaves q n.number (whole (v.values k))) (sym x) one in
      record {
        leaves = subst (λ q. Leaves (whole (v.values a)) q (whole (v.values k))) (sym y) two;
        left = sorted_word v.types.ctors (v.values a) (v.sorts a) (v.sorted a la);
        right = sorted_word v.types.ctors (v.values b) (v.sorts b) (v.sorted b lb);
      }

  divides_below : slice_get ss k ≡ Some (steps.Binary Rem a b) → DividesBelow v.values b k
  divides_below at = let r = remainder_at at in record { divisor = r.right; below = r.leaves.below }

-- the step is a remainder by the number that is its divisor
pub divisor_is : (ss : List Step) (v : Valuation ss) (k b : ℕ) (o : Option Step) → slice_get ss k ≡ o
    → divisor_in o ≡ Some b → DividesBelow v.values b k
divisor_is ss v k b (Some (steps.Binary Rem a c)) at is =
    subst (λ d. DividesBelow v.values d k) (same_Some c b is) (divides_below ss v k a c at)
divisor_is ss v k b o at is = absurd (cc)

pub remainder_apart : (low b r : ℤ) → pos 0 <ℤ low → low ≤ℤ b → (pos 0 <ℤ b → r <ℤ b) → (r +ℤ pos 1) ≤ℤ b
remainder_apart low b r positive least below =
    let less : pos 0 <ℤ b = omega (arith, ints, positive, least) in
    let h = below less in
    omega (arith, ints, h)
