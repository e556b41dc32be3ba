-- What is said of the line of a refusal.
use Rattle.std.specs.Prelude.{ℕ, List, string_bytes}
use Rattle.pp_source.specs.declared.refusal.Refusal.{Refusal}
use Rattle.pp_source.specs.declared.refusal.Refusal.TheVariants.{Line, Memory}

-- it holds of the line; want of memory has none
abbrev pub OnLine : Refusal → (List ℕ → Type 0) → Type 0
OnLine (Line line) P = P (string_bytes line)
OnLine Memory P = Unit {0}
