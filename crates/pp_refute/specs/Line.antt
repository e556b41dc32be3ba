-- The first line of a text.
use Rattle.std.specs.Prelude.{ℕ, ◌≡◌, ◌==◌, Bool, false, List, [], ◌∷◌, ◌++◌}
use Rattle.std.specs.List.{list_any}

-- whether a newline stands in the bytes
abbrev pub has_newline : List ℕ → Bool
has_newline bytes = list_any (λ b. b == 10) bytes

-- the line ends with the first newline, and the rest follows it
pub record IsFirstLine (bytes line rest : List ℕ) : Type 0 where
  pub body : List ℕ
  pub plain : has_newline body ≡ false
  pub ends : line ≡ body ++ 10 ∷ []
  pub parts : bytes ≡ line ++ rest
