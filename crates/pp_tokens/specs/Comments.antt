-- How long a comment is (Scala Language Specification 2.13, 1.4).
use Rattle.std.specs.Prelude.{ℕ, Bool, true, false, not, cond, ◌+◌, ◌-◌, ◌==◌, List, [], ◌∷◌, Option, Some, None}
use Rattle.std.specs.List.{prefix_len}
use Rattle.pp_tokens.specs.Characters.{is_line_feed, opens_block, closes_block}

-- how many characters stand before the end of the line
abbrev pub line_len : List ℕ → ℕ
line_len cs = prefix_len (λ c. not (is_line_feed c)) cs

-- so many more, if there are any
abbrev pub more_by : ℕ → Option ℕ → Option ℕ
more_by n None = None
more_by n (Some m) = Some (n + m)

-- How many characters stand up to the end of the outermost comment, of which so many, nested in one another, are open.
-- The second character of a `/*` or `*/` is passed over. None: the comment has no end.
abbrev pub block_len : ℕ → Bool → List ℕ → Option ℕ
block_len depth passed [] = None
block_len depth true (c ∷ cs) = more_by 1 (block_len depth false cs)
block_len depth false (c ∷ cs) =
    cond (opens_block c cs) (more_by 1 (block_len (depth + 1) true cs))
    (cond (closes_block c cs) (cond (depth == 1) (Some 2) (more_by 1 (block_len (depth - 1) true cs)))
    (more_by 1 (block_len depth false cs)))
