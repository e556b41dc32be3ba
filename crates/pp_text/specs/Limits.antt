-- How long a text may be (own).
use Rattle.std.specs.Prelude.{ℕ}

-- 256 KiB
abbrev pub most_bytes : ℕ
most_bytes = 262144
