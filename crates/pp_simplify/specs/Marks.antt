-- Marks on the numbers of steps. Source: own.
use Rattle.std.specs.Prelude.{◌≡◌, ◌⊎◌, ℕ, Bool, true, false, List, Contains, length, slice_index_or}

-- whether the number is marked
abbrev pub is_marked : List Bool → ℕ → Bool
is_marked marks k = slice_index_or marks k false

-- besides what was marked these numbers are
pub record Marks (old new : List Bool) (ns : List ℕ) : Type 0 where
  pub len : length new ≡ length old
  pub stays : (k : ℕ) → is_marked old k ≡ true → is_marked new k ≡ true
  pub these : (k : ℕ) → Contains ns k → is_marked new k ≡ true
  pub only : (k : ℕ) → is_marked new k ≡ true → (is_marked old k ≡ true) ⊎ Contains ns k
