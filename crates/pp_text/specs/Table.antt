-- The table of places that a text keeps (own).
use Rattle.std.specs.Prelude.{◌≡◌, ℕ, ◌+◌, ◌*◌, ◌<◌, ◌≤◌, ◌||◌, Bool, List, length, take, fold}
use Rattle.std.specs.Prelude.{nat_lt, nat_le, slice_index_or, if◌then◌else◌}
use Rattle.pp_text.specs.declared.place.TheConstants.{BYTES_APART}
use Rattle.pp_text.specs.Limits.{most_bytes}
use Rattle.pp_text.specs.Place.{is_line_feed}

-- a byte that begins a character: any but 10xxxxxx (Unicode Standard, chapter 3, table 3-6)
abbrev pub begins_character : ℕ → Bool
begins_character b = nat_lt b 128 || nat_le 192 b

-- the line and the column behind one more byte
abbrev pub past_byte : ℕ × ℕ → ℕ → ℕ × ℕ
past_byte p b = if is_line_feed b then (p.0 + 1, 1) else if begins_character b then (p.0, p.1 + 1) else p

-- those behind bytes that follow a place
abbrev pub past_bytes : ℕ × ℕ → List ℕ → ℕ × ℕ
past_bytes p bytes = fold past_byte p bytes

-- those behind bytes that stand at the start of a text
abbrev pub behind_bytes : List ℕ → ℕ × ℕ
behind_bytes bytes = past_bytes (1, 1) bytes

-- The table has the place at the start of the text, and that behind each 64 bytes, so many that each byte of the text
-- and its end have a place at most 63 bytes before them.
pub record IsTable (bytes : List ℕ) (table : List (ℕ × ℕ)) : Type 0 where
  pub enough : length bytes < BYTES_APART * length table
  pub right : (k : ℕ) (d : ℕ × ℕ) → k < length table
      → slice_index_or table k d ≡ behind_bytes (take (BYTES_APART * k) bytes)

-- what a text keeps: few bytes, and the table of their places
pub record IsKept (bytes : List ℕ) (table : List (ℕ × ℕ)) : Type 0 where
  pub short : length bytes ≤ most_bytes
  pub places : IsTable bytes table
