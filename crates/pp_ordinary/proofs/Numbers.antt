-- The numbers that tokens spell are Ints.
use lib.IntN.{ℤ, pos}
use lib.Signed.{◌≤ℤ◌, ◌<ℤ◌}
use mir.ValLaws.{to_z-Fits}
use Rattle.std.proofs.Common.{◌≡◌, ◌^◌, ◌≤◌, ℕ, Bool, true, false, cond, Option, Some, None, refl, subst, arith}
use Rattle.std.specs.Int.{w32, cast_signed}
use Rattle.std.specs.Int.RustNames.{FitsSigned}
use Rattle.std.specs.Prelude.{bytes_eq, codes, nat_le, nat_lt, neg_ℤ}
use Rattle.std.proofs.lemmas.Bool.{and_from, ltb-true}
use Rattle.std.proofs.lemmas.Int.{ints, SFits-int_wrap}
use Rattle.pp_grammar.specs.Words.{bound_of, negated_of, negation_of_bits, negative_of, number_of, word_of_bits}
use Rattle.pp_list.proofs.Integers.{at_most_true, less_true}
use Rattle.pp_tokens.specs.declared.token.TokenKind.{TokenKind}
use Rattle.pp_tokens.specs.declared.token.TokenKind.TheVariants.{Number, Hex}
use Rattle.pp_tree.specs.Plain.{Word}
use Rattle.pp_typed.specs.Sorted.{is_int}

-- a hexadecimal number has 32 bits
abbrev pub IsNarrow : TokenKind → Type 0
IsNarrow (Hex n) = n ≤ 0xFFFFFFFF
IsNarrow _ = Unit {0}

fitting : (z : ℤ) → FitsSigned w32 z → is_int z ≡ true
fitting z f =
    let least : neg_ℤ (pos (2 ^ 31)) ≤ℤ z = omega (arith, ints) in
    let most : z <ℤ pos (2 ^ 31) = omega (arith, ints) in
    and_from _ _ (at_most_true _ z least) (less_true z _ most)

bits_int : (n : ℕ) → n ≤ 0xFFFFFFFF → is_int (word_of_bits n) ≡ true
bits_int n h = fitting (cast_signed w32 n) (to_z-Fits w32 n (record { fits = omega arith }))

negation_int : (n : ℕ) → is_int (negation_of_bits n) ≡ true
negation_int n = fitting (negation_of_bits n) (SFits-int_wrap w32 _)

-- where a choice is some number, the first one is it
chosen : (b : Bool) (z n : ℤ) → cond b (Some z) None ≡ Some n → (b ≡ true) × (z ≡ n)
chosen true z n e = (refl, cc)
chosen false z n e = cc

at_end : (z n : ℤ) → z ≡ n → is_int z ≡ true → is_int n ≡ true
at_end z n is h = subst (λ (x : ℤ). is_int x ≡ true) is h

pub number_int : (k : TokenKind) (n : ℤ) → IsNarrow k → number_of k ≡ Some n → is_int n ≡ true
number_int (Number m) n h e =
    let c = chosen (nat_lt m 2147483648) (word_of_bits m) n e in
    at_end (word_of_bits m) n c.1 (bits_int m (omega (arith, ltb-true m 2147483648 c.0)))
number_int (Hex m) n h e = at_end (word_of_bits m) n (cc) (bits_int m h)
number_int _ n h e = cc

pub negated_int : (k : TokenKind) (n : ℤ) → negated_of k ≡ Some n → is_int n ≡ true
negated_int (Number m) n e =
    at_end (negation_of_bits m) n (chosen (nat_lt m 2147483648) (negation_of_bits m) n e).1 (negation_int m)
negated_int (Hex m) n e = at_end (negation_of_bits m) n (cc) (negation_int m)
negated_int _ n e = cc

pub negative_int : (k : TokenKind) (n : ℤ) → negative_of k ≡ Some n → is_int n ≡ true
negative_int (Number m) n e =
    at_end (negation_of_bits m) n (chosen (nat_le m 2147483648) (negation_of_bits m) n e).1 (negation_int m)
negative_int (Hex m) n e = at_end (negation_of_bits m) n (cc) (negation_int m)
negative_int _ n e = cc

either : (b : Bool) (z n : ℤ) (o : Option ℤ) → cond b (Some z) o ≡ Some n → is_int z ≡ true
    → (o ≡ Some n → is_int n ≡ true) → is_int n ≡ true
either true z n o e h k = at_end z n (cc) h
either false z n o e h k = k e

pub bound_int : (w : Word) (n : ℤ) → bound_of w ≡ Some n → is_int n ≡ true
bound_int w n e =
    either (bytes_eq w (codes "MinValue")) (cast_signed w32 2147483648) n _ e refl
    (λ f. either (bytes_eq w (codes "MaxValue")) (cast_signed w32 2147483647) n None f refl (λ g. cc))
