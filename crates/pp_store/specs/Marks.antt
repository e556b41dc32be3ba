-- Marks on the trees of a store, by number. Source: own.
use Rattle.std.specs.Prelude.{◌≡◌, ◌↔◌, ◌⊎◌, ℕ, Bool, false, List, Contains, get_or, IsTrue, length}
use Rattle.pp_store.specs.declared.held.Held.{Held}
use Rattle.pp_store.specs.declared.held.Held.TheVariants.{Tree}

-- the number is marked
abbrev pub IsMarked : List Bool → ℕ → Type 0
IsMarked marks k = IsTrue (get_or marks k false)

-- the trees among these are marked, as what was marked stays; nothing else is
pub record Marks (helds : List Held) (old new : List Bool) : Type 0 where
  pub length : length new ≡ length old
  pub marked : (k : ℕ) → IsMarked new k ↔ (IsMarked old k ⊎ Contains helds (Tree k))
