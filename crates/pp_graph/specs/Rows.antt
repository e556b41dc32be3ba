-- The table of a call graph: a row of marks for each function, which says what the function reaches. Source: own.
use Rattle.std.specs.Prelude.{◌≡◌, ◌↔◌, ◌<◌, ℕ, zero, suc, Bool, true, false, ◌&&◌, List, [], Option, Some, None}
use Rattle.std.specs.Prelude.{length, slice_get, IsTrue}
use Rattle.pp_graph.specs.Reaches.{Reaches}

abbrev pub is_set : Option Bool → Bool
is_set None = false
is_set (Some b) = b

abbrev pub marked : List Bool → ℕ → Bool
marked marks g = is_set (slice_get marks g)

-- the marks of f are at exactly the functions that f reaches
pub record IsRow (calls : List (List ℕ)) (f : ℕ) (row : List Bool) : Type 0 where
  pub size : length row ≡ length calls
  pub tells : (g : ℕ) → g < length calls → IsTrue (marked row g) ↔ Reaches calls f g

abbrev pub row_at : Option (List Bool) → List Bool
row_at None = []
row_at (Some row) = row

abbrev pub bit : List (List Bool) → ℕ → ℕ → Bool
bit rows f g = marked (row_at (slice_get rows f)) g

-- the first n rows tell exactly what their functions reach
pub record Tells (calls : List (List ℕ)) (n : ℕ) (rows : List (List Bool)) : Type 0 where
  pub size : length rows ≡ n
  pub tells : (f g : ℕ) → f < n → g < length calls → IsTrue (bit rows f g) ↔ Reaches calls f g

abbrev pub mutual_at : List (List Bool) → ℕ → ℕ → Bool
mutual_at rows f g = bit rows f g && bit rows g f

abbrev pub first_or : Bool → ℕ → ℕ → ℕ
first_or true g rest = g
first_or false g rest = rest

-- the first from g on, with k to look at, that f reaches and that reaches f, and else f
abbrev pub first_from : List (List Bool) → ℕ → ℕ → ℕ → ℕ
first_from rows f g zero = f
first_from rows f g (suc k) = first_or (mutual_at rows f g) g (first_from rows f (suc g) k)

-- the first function that f reaches and that reaches f, and else f
abbrev pub group : List (List Bool) → ℕ → ℕ
group rows f = first_from rows f 0 f

-- the groups of the first n functions
pub record Grouped (rows : List (List Bool)) (n : ℕ) (groups : List ℕ) : Type 0 where
  pub size : length groups ≡ n
  pub each : (f m : ℕ) → slice_get groups f ≡ Some m → (f < n) × (m ≡ group rows f)
