-- The bytes of characters.
use lib.Utf8.{encodes, encode}
use Rattle.std.proofs.Common.{ℕ, ◌≡◌, List, [], ◌∷◌, length, length-append, sym, ap, ◌∙◌, refl, arith, IsUtf8}
use Rattle.std.specs.Char.{len_utf8}
use Rattle.std.specs.Str.{chars}
use Rattle.std.proofs.lemmas.List.Sums.{sum_by-cons}
use Rattle.std.proofs.lemmas.Str.{length-encode, encodes-chars}
use Rattle.pp_tokens.specs.Characters.{width}

pub width-encodes : (cs : List ℕ) → length (encodes cs) ≡ width cs
width-encodes [] = refl
width-encodes (c ∷ cs) =
    omega (arith, length-append (encode c) (encodes cs), length-encode c, width-encodes cs, sum_by-cons len_utf8 c cs)

pub width-chars : (bs : List ℕ) → IsUtf8 bs → width (chars bs) ≡ length bs
width-chars bs utf8 = sym (width-encodes (chars bs)) ∙ ap length (encodes-chars bs utf8)
