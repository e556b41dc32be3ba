-- What bits that are taken away, shifts to the right and quotients leave of natural numbers.
use Rattle.std.proofs.Common.{◌≡◌, ◌<◌, ◌≤◌, ◌^◌, ◌/◌, ◌&&◌, ℕ, zero, suc, Bool, false, None, Ok, Some, List}
use Rattle.std.proofs.Common.{refl, ap, sym, ◌∙◌, subst, arith, length}
use Rattle.std.specs.Prelude.{slice_get}
use Rattle.std.specs.Int.{w32, cast_signed, cast_unsigned}
use Rattle.std.specs.Int.RustNames.{bit_and}
use Rattle.std.proofs.Math.Nat.{div-le_self}
use Rattle.std.proofs.lemmas.Int.{ints, to_z_pos}
use Rattle.std.proofs.lemmas.Nat.{and_le_l, and_le_r}
use Rattle.std.proofs.lemmas.Option.{slice_get_within}
use Rattle.pp_tree.specs.declared.operator.BinaryOp.{BinaryOp}
use Rattle.pp_tree.specs.declared.operator.BinaryOp.TheVariants.{And, Div, Shr, Ushr}
use Rattle.pp_word.specs.Word.{shift_distance, word_and, word_div, word_shr, word_ushr}
use Rattle.pp_word.specs.Wrapping.{IsWord}
use Rattle.pp_word.proofs.Wraps.{WrapsTo-int_wrap}
use Rattle.pp_prog.specs.declared.value.Value.{Value}
use Rattle.pp_prog.specs.declared.value.Value.TheOpen as layer
use Rattle.pp_prog.specs.declared.value.Value.TheVariants.{Int, Bool as Truth, outs-Bool}
use Rattle.pp_prog.specs.declared.value.Value.TheViews.{out-Value}
use Rattle.pp_eval.specs.Operators.{number_in, on_layers}
use Rattle.pp_eval.specs.Part.{and_then}
use Rattle.pp_steps.specs.declared.step.Step.{Step}
use Rattle.pp_steps.specs.declared.step.Step.TheVariants as steps
use Rattle.pp_steps.specs.Meaning.{value_or}
use Rattle.pp_closure.specs.Order.{Reduces}
use Rattle.pp_closure.specs.Sums.{whole, whole_in}
use Rattle.pp_closure.specs.Valuation.{Valuation}
use Rattle.pp_closure.proofs.Totals.{sorted_word, whole_int}
use lib.IntN.{ℤ, pos, negsuc}
use lib.Signed.{◌<ℤ◌}

-- ---- words

-- of a negative number nothing is said
negative : (n : ℕ) (r : ℤ) → Reduces (negsuc n) r
negative n r = record {
  natural = λ h. absurd (omega (arith, ints, h));
  most = λ h. absurd (omega (arith, ints, h));
}

no_greater : (n m : ℕ) (r : ℤ) → m ≤ n → r ≡ pos m → Reduces (pos n) r
no_greater n m r le e = record {
  natural = λ h. omega (arith, ints, e);
  most = λ h. omega (arith, ints, le, e);
}

nothing : (a r : ℤ) → r ≡ pos 0 → Reduces a r
nothing a r e = record {
  natural = λ h. omega (arith, ints, e);
  most = λ h. omega (arith, ints, h, e);
}

-- the word of few bits
few_bits : (n m : ℕ) → IsWord w32 (pos n) → m ≤ n → cast_signed w32 m ≡ pos m
few_bits n m f le = let h = f.1 in to_z_pos w32 m (omega (arith, ints, h, le))

and_left : (a b : ℤ) → IsWord w32 a → Reduces a (word_and w32 a b)
unfolding word_and
and_left (pos n) b f =
    let le = and_le_l n (cast_unsigned w32 b) in
    no_greater n (bit_and n (cast_unsigned w32 b)) _ le (few_bits n _ f le)
and_left (negsuc n) b f = negative n _

and_right : (a b : ℤ) → IsWord w32 b → Reduces b (word_and w32 a b)
unfolding word_and
and_right a (pos n) f =
    let le = and_le_r (cast_unsigned w32 a) n in
    no_greater n (bit_and (cast_unsigned w32 a) n) _ le (few_bits n _ f le)
and_right a (negsuc n) f = negative n _

shr_reduces : (a b : ℤ) → Reduces a (word_shr w32 a b)
unfolding word_shr
shr_reduces (pos n) b = no_greater n (n / 2 ^ shift_distance w32 b) _ (div-le_self n _) refl
shr_reduces (negsuc n) b = negative n _

ushr_reduces : (a b : ℤ) → IsWord w32 a → Reduces a (word_ushr w32 a b)
unfolding word_ushr
ushr_reduces (pos n) b f =
    let le = div-le_self n (2 ^ shift_distance w32 b) in
    no_greater n (n / 2 ^ shift_distance w32 b) _ le (few_bits n _ f le)
ushr_reduces (negsuc n) b f = negative n _

div_reduces : (a b : ℤ) → IsWord w32 a → pos 0 <ℤ b → Reduces a (word_div w32 a b)
unfolding word_div
div_reduces (pos n) (pos zero) f h = absurd (omega (arith, ints, h))
div_reduces (pos n) (pos (suc m)) f h =
    let le = div-le_self n (suc m) in
    let k = f.1 in
    let q = n / suc m in
    let word : IsWord w32 (pos q) = (omega (arith, ints), omega (arith, ints, k, le)) in
    let w = WrapsTo-int_wrap w32 (pos q) in
    no_greater n q _ le (sym (w.only (pos q) word (pos 0, omega (arith, ints))))
div_reduces (pos n) (negsuc m) f h = absurd (omega (arith, ints, h))
div_reduces (negsuc n) b f h = negative n _

-- ---- values

whole_truth : (v : Value) (b : Bool) → v ≡ Truth b → whole v ≡ pos 0
whole_truth v b e = ap whole e ∙ ap whole_in (outs-Bool b)

and_value : (o q : layer.Value-F Value) (v : Value) → v ≡ value_or (Truth false) (on_layers And None o q)
    → IsWord w32 (whole_in o) → IsWord w32 (whole_in q)
    → Reduces (whole_in o) (whole v) × Reduces (whole_in q) (whole v)
and_value (layer.Int a) (layer.Int b) v e f g =
    let n = whole_int v (word_and w32 a b) e in
    (subst (Reduces a) (sym n) (and_left a b f), subst (Reduces b) (sym n) (and_right a b g))
and_value (layer.Int a) (layer.Bool b) v e f g =
    let n = whole_truth v false e in (nothing a _ n, nothing (pos 0) _ n)
and_value (layer.Int a) (layer.Tree d fields) v e f g =
    let n = whole_truth v false e in (nothing a _ n, nothing (pos 0) _ n)
and_value (layer.Bool a) (layer.Int b) v e f g =
    let n = whole_truth v false e in (nothing (pos 0) _ n, nothing b _ n)
and_value (layer.Bool a) (layer.Bool b) v e f g =
    let n = whole_truth v (a && b) e in (nothing (pos 0) _ n, nothing (pos 0) _ n)
and_value (layer.Bool a) (layer.Tree d fields) v e f g =
    let n = whole_truth v false e in (nothing (pos 0) _ n, nothing (pos 0) _ n)
and_value (layer.Tree c fields) q v e f g =
    let n = whole_truth v false e in (nothing (pos 0) _ n, nothing (whole_in q) _ n)

shr_value : (o q : layer.Value-F Value) (v : Value) → v ≡ value_or (Truth false) (on_layers Shr None o q)
    → Reduces (whole_in o) (whole v)
shr_value (layer.Int a) (layer.Int b) v e = subst (Reduces a) (sym (whole_int v (word_shr w32 a b) e)) (shr_reduces a b)
shr_value (layer.Int a) (layer.Bool b) v e = nothing a _ (whole_truth v false e)
shr_value (layer.Int a) (layer.Tree d fields) v e = nothing a _ (whole_truth v false e)
shr_value (layer.Bool a) (layer.Int b) v e = nothing (pos 0) _ (whole_truth v false e)
shr_value (layer.Bool a) (layer.Bool b) v e = nothing (pos 0) _ (whole_truth v false e)
shr_value (layer.Bool a) (layer.Tree d fields) v e = nothing (pos 0) _ (whole_truth v false e)
shr_value (layer.Tree c fields) q v e = nothing (pos 0) _ (whole_truth v false e)

ushr_value : (o q : layer.Value-F Value) (v : Value) → v ≡ value_or (Truth false) (on_layers Ushr None o q)
    → IsWord w32 (whole_in o) → Reduces (whole_in o) (whole v)
ushr_value (layer.Int a) (layer.Int b) v e f =
    subst (Reduces a) (sym (whole_int v (word_ushr w32 a b) e)) (ushr_reduces a b f)
ushr_value (layer.Int a) (layer.Bool b) v e f = nothing a _ (whole_truth v false e)
ushr_value (layer.Int a) (layer.Tree d fields) v e f = nothing a _ (whole_truth v false e)
ushr_value (layer.Bool a) (layer.Int b) v e f = nothing (pos 0) _ (whole_truth v false e)
ushr_value (layer.Bool a) (layer.Bool b) v e f = nothing (pos 0) _ (whole_truth v false e)
ushr_value (layer.Bool a) (layer.Tree d fields) v e f = nothing (pos 0) _ (whole_truth v false e)
ushr_value (layer.Tree c fields) q v e f = nothing (pos 0) _ (whole_truth v false e)

div_value : (o q : layer.Value-F Value) (v : Value)
    → v ≡ value_or (Truth false)
    (and_then (number_in o) (λ m. and_then (number_in q) (λ n. Ok (Int (word_div w32 m n)))))
    → IsWord w32 (whole_in o) → pos 0 <ℤ whole_in q → Reduces (whole_in o) (whole v)
div_value (layer.Int a) (layer.Int b) v e f h =
    subst (Reduces a) (sym (whole_int v (word_div w32 a b) e)) (div_reduces a b f h)
div_value (layer.Int a) (layer.Bool b) v e f h = nothing a _ (whole_truth v false e)
div_value (layer.Int a) (layer.Tree d fields) v e f h = nothing a _ (whole_truth v false e)
div_value (layer.Bool a) q v e f h = nothing (pos 0) _ (whole_truth v false e)
div_value (layer.Tree c fields) q v e f h = nothing (pos 0) _ (whole_truth v false e)

-- ---- steps

module _ (ss : List Step) (v : Valuation ss) (k a b : ℕ) where
  -- the operands of the step are words
  words : (op : BinaryOp) → slice_get ss k ≡ Some (steps.Binary op a b)
      → IsWord w32 (whole (v.values a)) × IsWord w32 (whole (v.values b))
  words op at =
      let lt = slice_get_within ss k _ at in
      let r = v.reads k (steps.Binary op a b) at in
      let la : a < length ss = omega (arith, lt, r.0) in
      let lb : b < length ss = omega (arith, lt, r.1) in (
        sorted_word v.types.ctors (v.values a) (v.sorts a) (v.sorted a la),
        sorted_word v.types.ctors (v.values b) (v.sorts b) (v.sorted b lb),
      )

  -- the number is a word, and the step no greater where it is natural
  pub record Reduced (j : ℕ) : Type 0 where
    pub reduces : Reduces (whole (v.values j)) (whole (v.values k))
    pub word : IsWord w32 (whole (v.values j))

  pub and_at : slice_get ss k ≡ Some (steps.Binary And a b) → Reduced a × Reduced b
  and_at at =
      let w = words And at in
      let h = and_value (out-Value (v.values a)) (out-Value (v.values b)) (v.values k)
      (v.does k (steps.Binary And a b) at) w.0 w.1 in
      (record { reduces = h.0; word = w.0 }, record { reduces = h.1; word = w.1 })

  pub shr_at : slice_get ss k ≡ Some (steps.Binary Shr a b) → Reduced a
  shr_at at = record {
    reduces = shr_value (out-Value (v.values a)) (out-Value (v.values b)) (v.values k)
        (v.does k (steps.Binary Shr a b) at);
    word = (words Shr at).0;
  }

  pub ushr_at : slice_get ss k ≡ Some (steps.Binary Ushr a b) → Reduced a
  ushr_at at =
      let w = words Ushr at in
      record {
        reduces = ushr_value (out-Value (v.values a)) (out-Value (v.values b)) (v.values k)
            (v.does k (steps.Binary Ushr a b) at) w.0;
        word = w.0;
      }

  -- of a positive divisor
  pub record IsQuotientAt : Type 0 where
    pub reduces : pos 0 <ℤ whole (v.values b) → Reduces (whole (v.values a)) (whole (v.values k))
    pub left : IsWord w32 (whole (v.values a))
    pub right : IsWord w32 (whole (v.values b))

  pub quotient_at : slice_get ss k ≡ Some (steps.Binary Div a b) → IsQuotientAt
  quotient_at at =
      let w = words Div at in
      record {
        reduces = div_value (out-Value (v.values a)) (out-Value (v.values b)) (v.values k)
            (v.does k (steps.Binary Div a b) at) w.0;
        left = w.0;
        right = w.1;
      }
