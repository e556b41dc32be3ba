-- The first byte that begins no character.
use Rattle.std.proofs.Common.{◌≡◌, ℕ, ◌+◌, ◌<◌, List, ◌++◌, take, drop, length, ap, sym, ◌∙◌, subst, arith, IsUtf8}
use Rattle.std.specs.Char.{IsScalar, encode_utf8}
use Rattle.std.specs.Str.{IsValidUpTo}
use Rattle.std.proofs.lemmas.Str.{IsUtf8-append, IsUtf8-encode, length-encode, len_utf8_bounds}
use Rattle.std.proofs.Math.Seq.{take-add, take-append_seam}
use Rattle.pp_text.specs.Fault.{IsFirstBad}

-- where a character stood after a front that is UTF-8, a longer front would be
longer : (bytes rest : List ℕ) (n c : ℕ) → IsUtf8 (take n bytes) → IsScalar c → drop n bytes ≡ encode_utf8 c ++ rest
    → IsUtf8 (take (n + length (encode_utf8 c)) bytes)
longer bytes rest n c front scalar here =
    subst IsUtf8
    (ap (λ (l : List ℕ). take n bytes ++ l)
    (sym (take-append_seam (encode_utf8 c) rest) ∙ ap (take (length (encode_utf8 c))) (sym here))
    ∙ sym (take-add n (length (encode_utf8 c)) bytes))
    (IsUtf8-append (take n bytes) (encode_utf8 c) front (IsUtf8-encode c scalar))

pub first_bad : (bytes : List ℕ) (n : ℕ) → IsValidUpTo bytes n → IsFirstBad bytes n
first_bad bytes n valid = record {
  within = valid.short;
  before = valid.front;
  longest = valid.longest;
  here = λ c rest scalar here.
      let wide : n < n + length (encode_utf8 c) = omega (arith, length-encode c, len_utf8_bounds c) in
      valid.longest (n + length (encode_utf8 c)) wide (longer bytes rest n c valid.front scalar here);
}
