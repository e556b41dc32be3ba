-- Lines and columns (own: both from 1, a line ends with a line feed, a column counts Unicode scalar values).
use Rattle.std.specs.Prelude.{ℕ, ◌+◌, ◌==◌, Bool, List, length, take, count_by}
use Rattle.std.specs.List.{after_last}
use Rattle.std.specs.Str.{chars}

abbrev pub is_line_feed : ℕ → Bool
is_line_feed c = c == 10

-- the line behind characters: one more than their line feeds
abbrev pub line_behind : List ℕ → ℕ
line_behind cs = 1 + count_by is_line_feed cs

-- the column behind characters: one more than the characters after the last line feed
abbrev pub column_behind : List ℕ → ℕ
column_behind cs = 1 + length (after_last is_line_feed cs)

abbrev pub place_behind_of : List ℕ → ℕ × ℕ
place_behind_of cs = (line_behind cs, column_behind cs)

-- the place of the offset in the text: that behind the characters before it
abbrev pub place_of : List ℕ → ℕ → ℕ × ℕ
place_of text offset = place_behind_of (chars (take offset text))
