-- The operations on each bit of words, from the bits.
use Rattle.std.proofs.Common.{ℕ, ap, sym}
use Rattle.std.specs.Int.{Width, cast_signed, cast_unsigned}
use Rattle.std.specs.Int.RustNames.{bit_and, bit_or, bit_xor}
use Rattle.std.proofs.lemmas.Int.{of_z-to_z}
use Rattle.pp_word.specs.Word.{word_and, word_or, word_xor}
use Rattle.pp_wordlaws.proofs.Readings.{OfBits}

by_numbers : (w : Width) (f : ℕ → ℕ → ℕ)
    → OfBits w (λ n a b. f a b) (λ x y. cast_signed w (f (cast_unsigned w x) (cast_unsigned w y)))
by_numbers w f = record {
  reads = λ a b p q. ap (cast_signed w) (λ i. f (sym (of_z-to_z w a p) i) (sym (of_z-to_z w b q) i));
}

pub and_of_bits : (w : Width) → OfBits w (λ n a b. bit_and a b) (word_and w)
unfolding word_and
and_of_bits w = by_numbers w bit_and

pub or_of_bits : (w : Width) → OfBits w (λ n a b. bit_or a b) (word_or w)
unfolding word_or
or_of_bits w = by_numbers w bit_or

pub xor_of_bits : (w : Width) → OfBits w (λ n a b. bit_xor a b) (word_xor w)
unfolding word_xor
xor_of_bits w = by_numbers w bit_xor
