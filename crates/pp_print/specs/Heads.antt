-- Which lines stand under others: a line that begins with two blanks is indented, and belongs to the last line above it
-- that isn't, its head. Source: own.
use Rattle.std.specs.Prelude.{◌≡◌, Bool, true, false, ◌&&◌, List, ◌∷◌, nat_eq, not}
use Rattle.std.specs.List.{filter}
use Rattle.pp_print.specs.Values.{Text}

-- it begins with two blanks
abbrev pub is_indented : Text → Bool
is_indented (b ∷ c ∷ rest) = nat_eq b 32 && nat_eq c 32
is_indented _ = false

abbrev pub IsIndented : Text → Type 0
IsIndented line = is_indented line ≡ true

abbrev pub IsHead : Text → Type 0
IsHead line = is_indented line ≡ false

-- the heads among the lines
abbrev pub heads : List Text → List Text
heads lines = filter (λ line. not (is_indented line)) lines
