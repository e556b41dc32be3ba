-- What a shift to the right makes of a number of n binary digits. (own; JLS 15.19 for `>>` and `>>>` at 32 digits)
use Rattle.std.specs.Prelude.{ℕ, ◌-◌, ◌/◌, ◌^◌, Bool, if◌then◌else◌}

-- v moved by k places to the right, where each place that is left behind is filled with `fill`: with zeros it is the
-- quotient by 2^k, and with ones the digits that are not those of v are moved with zeros instead
abbrev pub moved_right : ℕ → Bool → ℕ → ℕ → ℕ
moved_right n fill v k = if fill then 2 ^ n - 1 - (2 ^ n - 1 - v) / 2 ^ k else v / 2 ^ k
