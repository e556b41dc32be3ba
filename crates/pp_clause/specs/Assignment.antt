-- A list of truth values as an assignment. (own)
use Rattle.std.specs.Prelude.{ℕ, ◌-◌, Bool, false, List, slice_index_or}

-- variable 1 has the first value of the list, and so on; variables past the list are false
abbrev pub assigned : List Bool → ℕ → Bool
assigned values x = slice_index_or values (x - 1) false
