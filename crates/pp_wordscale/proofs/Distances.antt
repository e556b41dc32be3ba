-- What shifts of numbers say of the integers that words stand for: the distance is the number of the lowest k literals
-- of a word as long or shorter, where there are 2^k places.
use Rattle.std.proofs.Common.{◌≡◌, ℕ, ◌*◌, ◌/◌, ◌%◌, ◌^◌, ◌≤◌, Bool, List, length, take, refl, sym, ap, ◌∙◌, subst}
use Rattle.std.specs.Int.{Width, int_shr, cast_signed}
use Rattle.pp_clause.specs.Literal.{Literal}
use Rattle.pp_word.specs.Word.{shift_distance, word_shl, word_shr, word_ushr}
use Rattle.pp_wordlaws.proofs.Moves.{left_of_bits, unsigned_right_of_bits, distance_of_bits}
use Rattle.pp_bits.specs.Number.{nat_of, signed_of}
use Rattle.pp_bits.proofs.Numbers.{nat_of_take, nat_of_within}
use Rattle.pp_wordgate.specs.Meaning.{word_of}
use Rattle.pp_wordgate.proofs.Words.{on_words, signed_word}
use lib.IntN.{ℤ}
use mir.Val.{bits}

pub distance_word : (w v : Width) (s : ℕ → Bool) (k : ℕ) {b lb d : List Literal} → 2 ^ k ≡ bits w → k ≤ bits v
    → bits v ≤ bits w → lb ≡ b → length b ≡ bits v
    → d ≡ take k lb → shift_distance w (word_of v s b) ≡ nat_of s d
unfolding word_of
distance_word w v s k {b} places some shorter eb hb e =
    distance_of_bits w v k (nat_of s b) places some shorter (nat_of_within s b (bits v) hb)
    ∙ sym (ap (nat_of s) (e ∙ ap (take k) eb) ∙ nat_of_take s k b (subst (λ n. k ≤ n) (sym hb) some)
    ∙ ap (λ n. nat_of s b % n) places)

pub left_word : (w : Width) (s : ℕ → Bool) {a la : List Literal} (d r : List Literal) (z : ℤ) → la ≡ a
    → length a ≡ bits w → shift_distance w z ≡ nat_of s d
    → nat_of s r ≡ (nat_of s la * 2 ^ nat_of s d) % 2 ^ length la → word_of w s r ≡ word_shl w (word_of w s a) z
unfolding word_of
left_word w s {a} {la} d r z ea ha far e =
    ap (cast_signed w) (on_words w s (λ n x i. (x * 2 ^ i) % 2 ^ n) a d la d r ea refl ha e)
    ∙ left_of_bits w (nat_of s a) (nat_of s d) z (nat_of_within s a (bits w) ha) far

pub unsigned_right_word : (w : Width) (s : ℕ → Bool) {a la : List Literal} (d r : List Literal) (z : ℤ) → la ≡ a
    → length a ≡ bits w → shift_distance w z ≡ nat_of s d
    → nat_of s r ≡ nat_of s la / 2 ^ nat_of s d → word_of w s r ≡ word_ushr w (word_of w s a) z
unfolding word_of
unsigned_right_word w s {a} {la} d r z ea ha far e =
    ap (cast_signed w) (on_words w s (λ n x i. x / 2 ^ i) a d la d r ea refl ha e)
    ∙ unsigned_right_of_bits w (nat_of s a) (nat_of s d) z (nat_of_within s a (bits w) ha) far

pub right_word : (w : Width) (s : ℕ → Bool) {a la : List Literal} (d r : List Literal) (z : ℤ) → la ≡ a
    → length a ≡ bits w → shift_distance w z ≡ nat_of s d
    → length r ≡ length la → signed_of (length la) (nat_of s r) ≡ int_shr (signed_of (length la) (nat_of s la))
    (nat_of s d)
    → word_of w s r ≡ word_shr w (word_of w s a) z
unfolding word_of word_shr
right_word w s {a} d r z ea ha far len e =
    sym (ap (λ n. signed_of n (nat_of s r)) (sym len) ∙ signed_word w s {a = r} refl (len ∙ ap length ea ∙ ha))
    ∙ e
    ∙ ap (λ i. int_shr i (nat_of s d)) (signed_word w s ea ha)
    ∙ ap (int_shr (word_of w s a)) (sym far)
