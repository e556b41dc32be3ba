-- How long the parts of an order are. (own)
use Rattle.std.specs.Prelude.{ℕ, ◌≡◌, ◌<◌, List, All}

-- there is a rank, a sign and a word of where it waits for each variable, and no other number is in the heap
pub record IsSized (count signed placed : ℕ) (queued : List ℕ) : Type 0 where
  pub signs : signed ≡ count
  pub places : placed ≡ count
  pub heap : All (λ x. x < count) queued
