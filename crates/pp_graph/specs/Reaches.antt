-- Which functions of a call graph reach which, and their groups. A graph is a list: at each function's place the
-- numbers of the functions that it calls. A number that is no place of the list names nothing, and calls nothing.
-- Source: own.
use Rattle.std.specs.Prelude.{◌≡◌, ◌⊎◌, ◌≤◌, ℕ, List, [], Option, Some, None, length, slice_get, Contains}

abbrev pub called_by : Option (List ℕ) → List ℕ
called_by None = []
called_by (Some gs) = gs

-- the functions that f calls
abbrev pub calls_of : List (List ℕ) → ℕ → List ℕ
calls_of calls f = called_by (slice_get calls f)

-- a path of at least one call leads from the first to the second
pub data Reaches (calls : List (List ℕ)) : ℕ → ℕ → Type 0 where
  by_call : (f g : ℕ) → Contains (calls_of calls f) g → Reaches calls f g
  by_more : (f g h : ℕ) → Contains (calls_of calls f) g → Reaches calls g h → Reaches calls f h

-- of one group: the same, or each reaches the other
abbrev pub SameGroup : List (List ℕ) → ℕ → ℕ → Type 0
SameGroup calls f g = (f ≡ g) ⊎ (Reaches calls f g × Reaches calls g f)

-- the number of the group of f: the least function of its group
pub record IsGroup (calls : List (List ℕ)) (f n : ℕ) : Type 0 where
  pub inside : SameGroup calls f n
  pub least : (g : ℕ) → SameGroup calls f g → n ≤ g

-- the group number of each function, at its place
pub record AreGroups (calls : List (List ℕ)) (groups : List ℕ) : Type 0 where
  pub size : length groups ≡ length calls
  pub each : (f n : ℕ) → slice_get groups f ≡ Some n → IsGroup calls f n
