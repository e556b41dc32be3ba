-- What equations on the numbers of words say of the integers that the words stand for.
use Rattle.std.proofs.Common.{to_z, of_z, ◌≡◌, ◌↔◌, ℕ, ◌%◌, ◌^◌, ◌<◌, ◌==◌, Bool, true, false}
use Rattle.std.proofs.Common.{if◌then◌else◌, List, length, sym, ap, ◌∙◌, subst}
use Rattle.std.specs.Int.{Width, cast_signed, cast_unsigned}
use Rattle.std.proofs.Math.Nat.{mod-eq_of_lt}
use Rattle.std.specs.Int.RustNames.{FitsSigned, int_lt}
use Rattle.std.proofs.lemmas.Int.{to_z-of_z}
use Rattle.std.proofs.lemmas.Bool.{eqb-true, eq-eqb}
use Rattle.pp_clause.specs.Literal.{Literal}
use Rattle.pp_gate.specs.declared.gate.Gate.{Gate}
use Rattle.pp_word.specs.Word.{word_less}
use Rattle.pp_word.proofs.Ranges.{cast_unsigned_below, IsWord-from_fits, fits_from_IsWord, IsWord-cast_signed}
use Rattle.pp_word.specs.Wrapping.{IsWord}
use Rattle.pp_wordlaws.proofs.Readings.{OfBits, same_reading}
use Rattle.pp_gate.specs.Circuit.{Gives}
use Rattle.pp_bits.specs.Inputs.{ChosenNumber}
use Rattle.pp_bits.specs.Number.{nat_of, signed_of, StandsForNumber}
use Rattle.pp_bits.proofs.Numbers.{nat_of_within}
use Rattle.pp_bits.proofs.Signs.{signed_by_cast}
use Rattle.pp_wordgate.specs.Meaning.{word_of, StandsForWord, ChosenWord}
use lib.IntN.{ℤ}
use mir.Val.{bits}

-- ---- words that a call answers

pub same_word : (w : Width) {gs : List Gate} {digits r : List Literal} {meaning : (ℕ → Bool) → ℤ} → r ≡ digits
    → StandsForWord w gs digits meaning → StandsForWord w gs r meaning
same_word w {gs} {digits} {r} {meaning} e h = subst (λ ls. StandsForWord w gs ls meaning) (sym e) h

-- the digits that were made, as a word
pub from_digits : (w : Width) {gs : List Gate} {n : ℕ} {digits r : List Literal} {number : (ℕ → Bool) → ℕ}
    {meaning : (ℕ → Bool) → ℤ} → r ≡ digits → n ≡ bits w → StandsForNumber gs n digits number
    → ((s : ℕ → Bool) → nat_of s digits ≡ number s → word_of w s digits ≡ meaning s) → StandsForWord w gs r meaning
from_digits w e wide stands means = same_word w e (record {
  len = stands.len ∙ wide;
  of = stands.of;
  value = λ s gives. means s (stands.value s gives);
})

-- ---- operations, from what they are on the numbers of words

-- what the code lends of words, and makes of them
pub on_words : (w : Width) (s : ℕ → Bool) (f : ℕ → ℕ → ℕ → ℕ) (a b la lb r : List Literal) → la ≡ a → lb ≡ b
    → length a ≡ bits w
    → nat_of s r ≡ f (length la) (nat_of s la) (nat_of s lb) → nat_of s r ≡ f (bits w) (nat_of s a) (nat_of s b)
on_words w s f a b la lb r ea eb ha e =
    e ∙ (λ i. f (length (ea i)) (nat_of s (ea i)) (nat_of s (eb i))) ∙ ap (λ n. f n (nat_of s a) (nat_of s b)) ha

pub binary_word : {w : Width} {f : ℕ → ℕ → ℕ → ℕ} {g : ℤ → ℤ → ℤ} {gs : List Gate} {a b la lb digits r : List Literal}
    → OfBits w f g → r ≡ digits → la ≡ a → lb ≡ b → length a ≡ bits w → length b ≡ bits w
    → StandsForNumber gs (length la) digits (λ s. f (length la) (nat_of s la) (nat_of s lb))
    → StandsForWord w gs r (λ s. g (word_of w s a) (word_of w s b))
unfolding word_of
binary_word {w} {f} {g} {gs} {a} {b} {la} {lb} {digits} law er ea eb ha hb stands =
    from_digits w er (ap length ea ∙ ha) stands
    (λ s e. ap (cast_signed w) (on_words w s f a b la lb digits ea eb ha e)
    ∙ law.reads (nat_of s a) (nat_of s b) (nat_of_within s a (bits w) ha) (nat_of_within s b (bits w) hb))

-- ---- comparisons, constants, choices

-- the integer in two's complement is that of the word
pub signed_word : (w : Width) (s : ℕ → Bool) {a la : List Literal} → la ≡ a → length a ≡ bits w
    → signed_of (length la) (nat_of s la) ≡ word_of w s a
unfolding word_of
signed_word w s {a} ea ha =
    (λ i. signed_of (length (ea i)) (nat_of s (ea i))) ∙ ap (λ n. signed_of n (nat_of s a)) ha
    ∙ signed_by_cast w (nat_of s a) (nat_of_within s a (bits w) ha)

pub less_word : (w : Width) (s : ℕ → Bool) {a b la lb : List Literal} → la ≡ a → lb ≡ b → length a ≡ bits w
    → length b ≡ bits w → int_lt (signed_of (length la) (nat_of s la)) (signed_of (length la) (nat_of s lb)) ≡
    word_less (word_of w s a) (word_of w s b)
less_word w s {la = la} {lb = lb} ea eb ha hb =
    let wide : length la ≡ length lb = ap length ea ∙ ha ∙ sym (ap length eb ∙ hb) in
    ap (λ n. int_lt (signed_of (length la) (nat_of s la)) (signed_of n (nat_of s lb))) wide
    ∙ (λ i. int_lt (signed_word w s ea ha i) (signed_word w s eb hb i))

pub equal_word : (w : Width) (s : ℕ → Bool) {a b la lb : List Literal} {r : Bool} → la ≡ a → lb ≡ b
    → length a ≡ bits w → length b ≡ bits w → r ≡ (nat_of s la == nat_of s lb)
    → (r ≡ true) ↔ (word_of w s a ≡ word_of w s b)
unfolding word_of
equal_word w s {a} {b} {r = r} ea eb ha hb e =
    let is : r ≡ (nat_of s a == nat_of s b) = e ∙ (λ i. nat_of s (ea i) == nat_of s (eb i)) in (
      λ h. ap (cast_signed w) (eqb-true (nat_of s a) (nat_of s b) (sym is ∙ h)),
      λ h. is ∙ eq-eqb (nat_of s a) (nat_of s b) (same_reading w (nat_of s a) (nat_of s b)
          (nat_of_within s a (bits w) ha) (nat_of_within s b (bits w) hb) h),
    )

pub chosen_word : (w : Width) (s : ℕ → Bool) {a b la lb : List Literal} (r : List Literal) (choice : Bool) → la ≡ a
    → lb ≡ b → nat_of s r ≡ (if choice then nat_of s la else nat_of s lb)
    → word_of w s r ≡ (if choice then word_of w s a else word_of w s b)
unfolding word_of
chosen_word w s r true ea eb e = ap (cast_signed w) (e ∙ ap (nat_of s) ea)
chosen_word w s r false ea eb e = ap (cast_signed w) (e ∙ ap (nat_of s) eb)

-- the digits of a value's unsigned reading are the bits of the value
pub constant_word : (w : Width) (s : ℕ → Bool) (r : List Literal) (v : ℤ) (n : ℕ) → FitsSigned w v → n < 2 ^ bits w
    → n ≡ cast_unsigned w (cast_signed w (cast_unsigned w v)) → nat_of s r ≡ n % 2 ^ bits w → word_of w s r ≡ v
unfolding word_of
constant_word w s r v n f small is e =
    ap (cast_signed w) (e ∙ mod-eq_of_lt small ∙ is ∙ ap (cast_unsigned w) (to_z-of_z w v f)) ∙ to_z-of_z w v f

-- ---- words of inputs, and the values that are read

-- inputs that stand for each number stand for each integer
pub chosen_word_of : (w : Width) {old new : List Gate} {digits r : List Literal} {n : ℕ} → r ≡ digits → n ≡ bits w
    → ((s : ℕ → Bool) → Gives s old → (v : ℕ) → v < 2 ^ n → ChosenNumber old new s digits v)
    → (s : ℕ → Bool) → Gives s old → (v : ℤ) → FitsSigned w v → ChosenWord w old new s r v
unfolding word_of
chosen_word_of w {old} {new} {digits} {n = n} e wide chosen s gives v fits =
    let small : cast_unsigned w v < 2 ^ n =
    subst (λ k. cast_unsigned w v < 2 ^ k) (sym wide) (cast_unsigned_below w v (IsWord-from_fits w v fits)) in
    let c : ChosenNumber old new s digits (cast_unsigned w v) = chosen s gives (cast_unsigned w v) small in
    record {
      assignment = c.assignment;
      gives = c.gives;
      keeps = c.keeps;
      value = ap (λ l. cast_signed w (nat_of c.assignment l)) e ∙ ap (cast_signed w) c.number ∙ to_z-of_z w v fits;
    }

pub value_of_word : (w : Width) (s : ℕ → Bool) {a la : List Literal} {n : ℕ} {v : ℤ} → la ≡ a → length a ≡ bits w
    → n ≡ nat_of s la → v ≡ cast_signed w n
    → to_z w (of_z w v) ≡ word_of w s a
unfolding word_of
value_of_word w s {a} {n = n} {v = v} e wide f g =
    let same : n ≡ nat_of s a = f ∙ ap (nat_of s) e in
    let small : n < 2 ^ bits w = subst (λ k. k < 2 ^ bits w) (sym same) (nat_of_within s a (bits w) wide) in
    to_z-of_z w v (fits_from_IsWord w v (subst (IsWord w) (sym g) (IsWord-cast_signed w n small))) ∙ g
    ∙ ap (cast_signed w) same
