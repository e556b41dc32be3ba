-- Bounds on the variables of literals. (own)
use Rattle.std.specs.Prelude.{ℕ, ◌<◌, ◌≤◌, List, All}
use Rattle.pp_clause.specs.Literal.{Literal}

-- no variable of the literals is above this one
abbrev pub IsUpTo : ℕ → List Literal → Type 0
IsUpTo vars ls = All (λ l. l.var ≤ vars) ls

-- each variable of the literals has a place in a table of this length
abbrev pub Fits : ℕ → List Literal → Type 0
Fits bound ls = All (λ l. l.var < bound) ls
