-- Sums of two numbers, which wrap.
use Rattle.std.proofs.Common.{◌≡◌, ◌<◌, ℕ, List, Option, Some, None, sym, ap, ◌∙◌, arith, length}
use Rattle.std.specs.Prelude.{IfSome, slice_get}
use Rattle.std.specs.Option.{SomeIff}
use Rattle.std.specs.Int.{w32, cast_signed, cast_unsigned}
use Rattle.std.specs.Int.RustNames.{FitsSigned}
use Rattle.std.proofs.lemmas.Int.{ints, to_z-of_z}
use Rattle.std.proofs.lemmas.Option.{same_Some, slice_get_within}
use Rattle.pp_tree.specs.declared.operator.BinaryOp.{BinaryOp}
use Rattle.pp_tree.specs.declared.operator.BinaryOp.TheVariants.{Add, Sub}
use Rattle.pp_prog.specs.declared.sort.Sort.TheVariants as sort
use Rattle.pp_prog.specs.declared.value.Value.TheVariants.{Int}
use Rattle.pp_prog.proofs.PartSorts.{sum_parts}
use Rattle.pp_prog.proofs.ValueSorts.{int_value}
use Rattle.pp_word.specs.Wrapping.{IsWord}
use Rattle.pp_steps.specs.declared.step.Step.{Step}
use Rattle.pp_steps.specs.declared.step.Step.TheVariants as steps
use Rattle.pp_steps.specs.Meaning.{Values}
use Rattle.pp_closure.specs.declared.additions.Addition.{Addition}
use Rattle.pp_closure.specs.Steps.{addition_in, addition_of}
use Rattle.pp_closure.specs.Sums.{Adds, AlikeWords, HasNumber, MayAdd, whole}
use Rattle.pp_closure.specs.Valuation.{Valuation}
use Rattle.pp_closure.proofs.Totals.{made_less, made_sum, sorted_int, sorted_word, whole_int, words_same}
use Rattle.pp_closure.proofs.Totals.{zero_word}
use lib.IntN.{ℤ, pos, ◌+ℤ◌, ◌-ℤ◌, neg_ℤ}
use lib.Signed.{◌≤ℤ◌}

-- the sum where there is one
pub if_iff : (o : Option ℤ) (P : Type 0) (n : ℤ) → SomeIff o P n → IfSome o (λ m. m ≡ n)
if_iff None P n h = tt
if_iff (Some m) P n h = h.1

pub back_sum : (n a b : ℤ) → FitsSigned w32 a → FitsSigned w32 b
    → n ≡ cast_signed w32 (cast_unsigned w32 a) +ℤ cast_signed w32 (cast_unsigned w32 b) → n ≡ a +ℤ b
back_sum n a b f g e =
    e ∙ ap (λ z. z +ℤ cast_signed w32 (cast_unsigned w32 b)) (to_z-of_z w32 a f) ∙ ap (λ z. a +ℤ z) (to_z-of_z w32 b g)

pub back_difference : (n a b : ℤ) → FitsSigned w32 a → FitsSigned w32 b
    → n ≡ cast_signed w32 (cast_unsigned w32 a) -ℤ cast_signed w32 (cast_unsigned w32 b) → n ≡ a -ℤ b
back_difference n a b f g e =
    e ∙ ap (λ z. z -ℤ cast_signed w32 (cast_unsigned w32 b)) (to_z-of_z w32 a f) ∙ ap (λ z. a -ℤ z) (to_z-of_z w32 b g)

module _ (ρ : Values) where
  -- two numbers that are one make one value
  pub one_value : (j k : ℕ) → HasNumber ρ j → HasNumber ρ k → whole (ρ j) ≡ whole (ρ k) → ρ j ≡ ρ k
  one_value j k h g e = h.is ∙ ap Int e ∙ sym g.is

  module _ (s t : Addition) (h : Adds ρ s) (g : Adds ρ t) where
    pub same_sum : ρ s.one ≡ ρ t.one → ρ s.other ≡ ρ t.other → ρ s.sum ≡ ρ t.sum
    same_sum one other =
        let a = ap whole one in
        let b = ap whole other in
        one_value s.sum t.sum h.sum g.sum (words_same _ _ h.sum.word g.sum.word
        (g.alike.0 +ℤ neg_ℤ h.alike.0, omega (arith, ints, a, b, h.alike.1, g.alike.1)))

    pub same_other : ρ s.one ≡ ρ t.one → ρ s.sum ≡ ρ t.sum → ρ s.other ≡ ρ t.other
    same_other one sum =
        let a = ap whole one in
        let b = ap whole sum in
        one_value s.other t.other h.other g.other (words_same _ _ h.other.word g.other.word
        (h.alike.0 +ℤ neg_ℤ g.alike.0, omega (arith, ints, a, b, h.alike.1, g.alike.1)))

    pub same_one : ρ s.sum ≡ ρ t.sum → ρ s.other ≡ ρ t.other → ρ s.one ≡ ρ t.one
    same_one sum other =
        let a = ap whole other in
        let b = ap whole sum in
        one_value s.one t.one h.one g.one (words_same _ _ h.one.word g.one.word
        (h.alike.0 +ℤ neg_ℤ g.alike.0, omega (arith, ints, a, b, h.alike.1, g.alike.1)))

  pub turn_adds : (s t : Addition) → t.sum ≡ s.sum → t.one ≡ s.other → t.other ≡ s.one → Adds ρ s → Adds ρ t
  turn_adds s t e f g h =
      let a = ap (λ k. whole (ρ k)) e in
      let b = ap (λ k. whole (ρ k)) f in
      let c = ap (λ k. whole (ρ k)) g in
      record {
        alike = (h.alike.0, omega (arith, ints, a, b, c, h.alike.1));
        sum = rw e h.sum;
        one = rw f h.other;
        other = rw g h.one;
      }

  pub turn_exact : (p q r : ℤ) → p ≡ q +ℤ r → p ≡ r +ℤ q
  turn_exact p q r e = omega (arith, ints, e)

  -- a part that is 0 leaves the other one
  pub nothing_added : (s : Addition) → Adds ρ s → whole (ρ s.one) ≡ pos 0 → ρ s.sum ≡ ρ s.other
  nothing_added s h zero =
      one_value s.sum s.other h.sum h.other (words_same _ _ h.sum.word h.other.word
      (neg_ℤ h.alike.0, omega (arith, ints, zero, h.alike.1)))

  -- and the other way round
  pub nothing_left : (s : Addition) → Adds ρ s → ρ s.sum ≡ ρ s.other → whole (ρ s.one) ≡ pos 0
  nothing_left s h same =
      let e = ap whole same in
      words_same _ _ h.one.word zero_word (h.alike.0, omega (arith, ints, e, h.alike.1))

  -- where the sum of the parts is a word it is the sum
  pub exact_sum : (s : Addition) (a b c d m n : ℤ) → Adds ρ s → a ≤ℤ whole (ρ s.one) → whole (ρ s.one) ≤ℤ b
      → c ≤ℤ whole (ρ s.other) → whole (ρ s.other) ≤ℤ d → m ≡ a +ℤ c → n ≡ b +ℤ d → IsWord w32 m → IsWord w32 n
      → whole (ρ s.sum) ≡ whole (ρ s.one) +ℤ whole (ρ s.other)
  exact_sum s a b c d m n h al ah bl bh e f wm wn =
      let word : IsWord w32 (whole (ρ s.one) +ℤ whole (ρ s.other)) =
      (omega (arith, ints, al, bl, e, wm.0), omega (arith, ints, ah, bh, f, wn.1)) in
      sym (words_same _ _ word h.sum.word h.alike)

  pub exact_part : (s : Addition) (a b c d m n : ℤ) → Adds ρ s → a ≤ℤ whole (ρ s.sum) → whole (ρ s.sum) ≤ℤ b
      → c ≤ℤ whole (ρ s.other) → whole (ρ s.other) ≤ℤ d → m ≡ a -ℤ d → n ≡ b -ℤ c → IsWord w32 m → IsWord w32 n
      → whole (ρ s.sum) ≡ whole (ρ s.one) +ℤ whole (ρ s.other)
  exact_part s a b c d m n h al ah bl bh e f wm wn =
      let word : IsWord w32 (whole (ρ s.sum) -ℤ whole (ρ s.other)) =
      (omega (arith, ints, al, bh, e, wm.0), omega (arith, ints, ah, bl, f, wn.1)) in
      let same : AlikeWords (whole (ρ s.sum) -ℤ whole (ρ s.other)) (whole (ρ s.one)) =
      (neg_ℤ h.alike.0, omega (arith, ints, h.alike.1)) in
      let is = words_same _ _ word h.one.word same in
      omega (arith, ints, is)

-- ---- steps

module _ (ss : List Step) (v : Valuation ss) where
  number_is : (k : ℕ) → k < length ss → v.sorts k ≡ sort.Int → HasNumber v.values k
  number_is k within e =
      let n = int_value v.types.ctors (v.values k) (sorted_int ss v k within e) in
      record {
        is = n.is ∙ ap Int (sym (whole_int (v.values k) n.number n.is));
        word = sorted_word v.types.ctors (v.values k) (v.sorts k) (v.sorted k within);
      }

  adds_op : (op : BinaryOp) (k a b : ℕ) → slice_get ss k ≡ Some (steps.Binary op a b)
      → MayAdd v.values (addition_of op k a b)
  adds_op Add k a b at =
      let lt = slice_get_within ss k _ at in
      let r = v.reads k (steps.Binary Add a b) at in
      let p = sum_parts (Some (v.sorts a)) (Some (v.sorts b)) (v.sorts k) (v.typed k (steps.Binary Add a b) at) in
      let h = made_sum ss v k a b at in
      record {
        alike = (h.0, omega (arith, ints, h.1));
        sum = number_is k lt (sym p.2);
        one = number_is a (omega (arith, lt, r.0)) (same_Some (v.sorts a) sort.Int p.0);
        other = number_is b (omega (arith, lt, r.1)) (same_Some (v.sorts b) sort.Int p.1);
      }
  adds_op Sub k a b at =
      let lt = slice_get_within ss k _ at in
      let r = v.reads k (steps.Binary Sub a b) at in
      let p = sum_parts (Some (v.sorts a)) (Some (v.sorts b)) (v.sorts k) (v.typed k (steps.Binary Sub a b) at) in
      let h = made_less ss v k a b at in
      record {
        alike = (neg_ℤ h.0, omega (arith, ints, h.1));
        sum = number_is a (omega (arith, lt, r.0)) (same_Some (v.sorts a) sort.Int p.0);
        one = number_is k lt (sym p.2);
        other = number_is b (omega (arith, lt, r.1)) (same_Some (v.sorts b) sort.Int p.1);
      }
  adds_op op k a b at = tt

  pub adds_at : (k : ℕ) (o : Option Step) → slice_get ss k ≡ o → MayAdd v.values (addition_in k o)
  adds_at k (Some (steps.Binary op a b)) at = adds_op op k a b at
  adds_at k o at = tt
