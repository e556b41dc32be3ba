-- When bytes are no text (Unicode Standard, chapter 3, table 3-7: well-formed UTF-8).
use Rattle.std.specs.Prelude.{ℕ, ◌<◌, List, length, take, drop}
use Rattle.std.specs.Str.{IsUtf8, StartsWithNoChar}
use Rattle.pp_text.specs.declared.text.TextFault.{TextFault}
use Rattle.pp_text.specs.declared.text.TextFault.TheVariants.{NotUtf8, Memory}

-- The byte at the offset is the first that begins no character: the bytes before it spell characters, no longer front
-- does, and what stands from it on isn't a character and then more bytes.
pub record IsFirstBad (bytes : List ℕ) (offset : ℕ) : Type 0 where
  pub within : offset < length bytes
  pub before : IsUtf8 (take offset bytes)
  pub longest : (n : ℕ) → offset < n → ¬ (IsUtf8 (take n bytes))
  pub here : StartsWithNoChar (drop offset bytes)

-- when each fault comes: want of memory has no cause in the bytes
abbrev pub IsCause : TextFault → List ℕ → Type 0
IsCause (NotUtf8 offset) bytes = ¬ (IsUtf8 bytes) × IsFirstBad bytes offset
IsCause Memory bytes = Unit {0}
