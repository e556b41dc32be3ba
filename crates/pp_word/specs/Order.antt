-- What less and at most mean, in plain integers.
use Rattle.std.specs.Prelude.{◌≡◌, ℕ, suc, ℤ, pos, ◌+ℤ◌}

-- b is a plus a positive number
abbrev pub IsLess : ℤ → ℤ → Type 0
IsLess a b = (k : ℕ) × (b ≡ a +ℤ pos (suc k))

-- b is a plus a natural number
abbrev pub IsAtMost : ℤ → ℤ → Type 0
IsAtMost a b = (k : ℕ) × (b ≡ a +ℤ pos k)
