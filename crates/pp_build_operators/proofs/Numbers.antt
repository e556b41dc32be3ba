-- Words that stand for what an operator makes of a number, and the comparison of two numbers of a measure.
use Rattle.std.proofs.Common.{◌≡◌, ℕ, ℤ, List, Bool, true, false, if◌then◌else◌, arith, not, Ok, refl, sym, ap, ◌∙◌}
use Rattle.std.specs.Prelude.{pos, ◌&&◌, ◌↔◌, ◌≢◌, int_le, int_lt}
use Rattle.std.specs.Int.{int_wrap}
use Rattle.std.specs.Int.RustNames.{int_div, int_rem}
use Rattle.std.proofs.lemmas.Bool.{false≢true}
use Rattle.std.proofs.lemmas.Int.{ints, quot-rem}
use Rattle.std.specs.Int.{w32}
use Rattle.pp_tree.specs.declared.operator.UnaryOp.TheVariants.{Neg, Flip}
use Rattle.pp_prog.specs.declared.value.Value.{Value}
use Rattle.pp_prog.specs.declared.value.Value.TheVariants as value
use Rattle.pp_prog.specs.declared.value.Value.TheVariants.{outs-Bool}
use Rattle.pp_clause.specs.Literal.{Literal, lit_value, opposite}
use Rattle.pp_gate.specs.declared.gate.Gate.{Gate}
use Rattle.pp_gate.specs.Circuit.{Gives, StandsFor}
use Rattle.pp_gate.specs.Growth.{AddsGates}
use Rattle.pp_bits.proofs.Growing.{Gives_before}
use Rattle.pp_bits.proofs.Numbers.{lit_value_negated}
use Rattle.pp_word.specs.Word.{word_div, word_rem, word_neg, word_not, word_less}
use Rattle.pp_wordgate.specs.Meaning.{word_of, StandsForWord}
use Rattle.pp_eval.specs.Operators.{unary}
use Rattle.pp_eval.specs.Part.{Part}
use Rattle.pp_build_operators.specs.Plain.{IsNumberOf}
use Rattle.pp_build_operators.proofs.Values.{flip_int, neg_int, not_negative}
use Rattle.pp_domain.proofs.AnySort.{int_same}

ok_same : (v w : Value) (p : Part Value) → p ≡ Ok v → p ≡ Ok w → v ≡ w
ok_same v w p one other = let o : Ok v ≡ Ok w = sym one ∙ other in cc

pub number_from : (gs : List Gate) (r : List Literal) (f : (ℕ → Bool) → ℤ) (part : (ℕ → Bool) → Part Value)
    → StandsForWord w32 gs r f → ((s : ℕ → Bool) → part s ≡ Ok (value.Int (f s))) → IsNumberOf gs r part
number_from gs r f part stands is = record {
  len = stands.len;
  of = stands.of;
  value = λ s n gives e. stands.value s gives ∙ int_same (f s) n (ok_same _ _ (part s) (is s) e);
}

pub neg_number : (gs : List Gate) (a r : List Literal) → StandsForWord w32 gs r (λ s. word_neg w32 (word_of w32 s a))
    → IsNumberOf gs r (λ s. unary Neg (value.Int (word_of w32 s a)))
neg_number gs a r stands = number_from gs r _ _ stands (λ s. neg_int (word_of w32 s a))

pub flip_number : (gs : List Gate) (a r : List Literal) → StandsForWord w32 gs r (λ s. word_not w32 (word_of w32 s a))
    → IsNumberOf gs r (λ s. unary Flip (value.Int (word_of w32 s a)))
flip_number gs a r stands = number_from gs r _ _ stands (λ s. flip_int (word_of w32 s a))

-- the new number isn't negative, and less than the old one
pub down_number : (fs gs hs ks : List Gate) (i j k : ℕ) (new old zero : List Literal) (negative turned less r : Literal)
    → StandsForWord w32 fs zero (λ s. pos 0) → AddsGates fs gs i
    → StandsFor gs negative (λ s. word_less (word_of w32 s new) (word_of w32 s zero)) → AddsGates gs hs j
    → StandsFor hs less (λ s. word_less (word_of w32 s new) (word_of w32 s old)) → AddsGates hs ks k
    → turned ≡ opposite negative → StandsFor ks r (λ s. lit_value s turned && lit_value s less)
    → StandsFor ks r (λ s. int_le (pos 0) (word_of w32 s new) && int_lt (word_of w32 s new) (word_of w32 s old))
down_number fs gs hs ks i j k new old zero negative turned less r isZero first isNegative second isLess third is both =
    record {
      of = both.of;
      value = λ s gives.
          let before = Gives_before hs ks k third s gives in
          let start = Gives_before gs hs j second s before in
          let none = isZero.value s (Gives_before fs gs i first s start) in
          let sign : lit_value s turned ≡ int_le (pos 0) (word_of w32 s new) =
          lit_value_negated s turned negative is
          ∙ ap not (isNegative.value s start ∙ ap (λ (z : ℤ). int_lt (word_of w32 s new) z) none)
          ∙ not_negative (word_of w32 s new) in
          both.value s gives ∙ ap (λ (b : Bool). b && lit_value s less) sign
          ∙ ap (λ (b : Bool). int_le (pos 0) (word_of w32 s new) && b) (isLess.value s before);
    }

-- ---- quotients

q_zero : (a : ℤ) → int_div a (pos 0) ≡ pos 0
q_zero a = grind (arith, ints)

r_zero : (a : ℤ) → int_rem a (pos 0) ≡ a
r_zero a = let e = quot-rem a (pos 0) in grind (arith, ints)

pub word_rem_zero : (a : ℤ) → word_rem w32 a (pos 0) ≡ a
unfolding word_rem
word_rem_zero a = r_zero a

pub word_div_zero : (a : ℤ) → word_div w32 a (pos 0) ≡ pos 0
unfolding word_div int_wrap
word_div_zero a = ap (int_wrap w32) (q_zero a)

-- a word that is made where the divisor isn't 0, and another one where it is
pub total_word : (go : ℤ → ℤ → ℤ) (es fs hs ks : List Gate) (i j k : ℕ) (a b zero other plain r : List Literal)
    (none : Literal)
    → ((s : ℕ → Bool) → Gives s es → word_of w32 s b ≢ pos 0
    → word_of w32 s plain ≡ go (word_of w32 s a) (word_of w32 s b))
    → AddsGates es fs i → StandsForWord w32 fs zero (λ s. pos 0) → AddsGates fs hs j
    → ((s : ℕ → Bool) → Gives s hs → (lit_value s none ≡ true) ↔ (word_of w32 s b ≡ word_of w32 s zero))
    → AddsGates hs ks k
    → StandsForWord w32 ks r (λ s. if lit_value s none then word_of w32 s other else word_of w32 s plain)
    → ((s : ℕ → Bool) → word_of w32 s zero ≡ pos 0 → word_of w32 s other ≡ go (word_of w32 s a) (pos 0))
    → StandsForWord w32 ks r (λ s. go (word_of w32 s a) (word_of w32 s b))
total_word go es fs hs ks i j k a b zero other plain r none divided first is_zero second test third chosen otherwise =
    record {
      len = chosen.len;
      of = chosen.of;
      value = λ s gives.
          let late = Gives_before hs ks k third s gives in
          let here = Gives_before fs hs j second s late in
          let early = Gives_before es fs i first s here in
          let null = is_zero.value s here in
          let both = test s late in
          chosen.value s gives ∙ by s early null both (lit_value s none) refl;
    }
  where
    by : (s : ℕ → Bool) → Gives s es → word_of w32 s zero ≡ pos 0
        → ((lit_value s none ≡ true) ↔ (word_of w32 s b ≡ word_of w32 s zero)) → (c : Bool) → lit_value s none ≡ c
        → (if c then word_of w32 s other else word_of w32 s plain) ≡ go (word_of w32 s a) (word_of w32 s b)
    by s early null both true e =
        otherwise s null ∙ ap (go (word_of w32 s a)) (sym (both.0 e ∙ null))
    by s early null both false e =
        divided s early (λ is. false≢true (sym e ∙ both.1 (is ∙ sym null)))
