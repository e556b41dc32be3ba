-- What a piece does to a line that grows. `None` stands for a line that lacks a piece. Source: own.
use Rattle.std.specs.Prelude.{◌≡◌, ℕ, List, ◌++◌, Option, Some, option_map, IfSome}

-- a new line that lacks none is the old one, which lacks none, with the piece behind it; nothing is said where the type
-- of the value doesn't state what it prints
abbrev pub AddsPiece : Option (List ℕ) → Option (List ℕ) → Option (List ℕ) → Type 0
AddsPiece piece old new = IfSome new (λ t. IfSome piece (λ p. option_map (λ s. s ++ p) old ≡ Some t))
