-- Digits that come again. (own)
use Rattle.std.specs.Prelude.{◌≡◌, ℕ, ◌-◌, ◌<◌, List, slice_get}
use Rattle.pp_clause.specs.Literal.{Literal}

-- the literal at place i is that at the place before it
pub record IsRepeatedAt (ls : List Literal) (i : ℕ) : Type 0 where
  pub after : 0 < i
  pub same : slice_get ls i ≡ slice_get ls (i - 1)
