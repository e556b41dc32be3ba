-- Numbers that are cut at the greatest of 64 bits. Source: own.
use Rattle.std.specs.Prelude.{ℕ, ◌-◌, ◌^◌, min}

-- the greatest number of 64 bits
abbrev pub top : ℕ
top = 2 ^ 64 - 1

abbrev pub cut : ℕ → ℕ
cut n = min n top
