-- An Int is a word of 32 bits.
use Rattle.std.proofs.Common.{◌≡◌, true}
use Rattle.std.specs.Int.{w32}
use Rattle.std.specs.Int.RustNames.{FitsSigned}
use Rattle.std.proofs.lemmas.Bool.{and_from, and_parts}
use Rattle.pp_word.specs.Wrapping.{IsWord}
use Rattle.pp_word.proofs.Ranges.{fits_from_IsWord}
use Rattle.pp_prog.specs.Sorts.{is_int}
use lib.IntN.{ℤ}
use Rattle.pp_list.proofs.Integers.{at_most, at_most_true, less, less_true}

pub word_from : (n : ℤ) → is_int n ≡ true → IsWord w32 n
word_from n h = let p = and_parts _ _ h in (at_most _ n p.0, less n _ p.1)

pub int_from : (n : ℤ) → IsWord w32 n → is_int n ≡ true
int_from n h = and_from _ _ (at_most_true _ n h.0) (less_true n _ h.1)

pub int_fits : (n : ℤ) → is_int n ≡ true → FitsSigned w32 n
int_fits n h = fits_from_IsWord w32 n (word_from n h)
