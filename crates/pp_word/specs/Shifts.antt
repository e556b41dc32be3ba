-- What shifts mean, in plain integers.
use Rattle.std.specs.Prelude.{ℕ, ◌<◌, ℤ, pos, ◌+ℤ◌, ◌*ℤ◌, ◌≤ℤ◌, ◌<ℤ◌}
use Rattle.std.specs.Int.{Width}
use Rattle.pp_word.specs.Wrapping.{SameModulo}
use mir.Val.{bits}

-- a shift by b moves by k bits: k is the number below the width that differs from b by a multiple of the width.
-- JLS 15.19: "only the five lowest-order bits of the right-hand operand are used as the shift distance", and six for
-- `long`.
abbrev pub IsDistance : Width → ℤ → ℕ → Type 0
IsDistance w b k = (k < bits w) × SameModulo (bits w) b (pos k)

-- q is the floor of z / m: q times m is at most z, and (q + 1) times m is above z
abbrev pub IsFloor : ℤ → ℕ → ℤ → Type 0
IsFloor z m q = ((q *ℤ pos m) ≤ℤ z) × (z <ℤ ((q *ℤ pos m) +ℤ pos m))
