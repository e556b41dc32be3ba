-- What was found from a function on: a mark for each function, and the list of the marked ones. Source: own.
use Rattle.std.specs.Prelude.{◌≡◌, ◌⊎◌, ◌<◌, ◌+◌, ℕ, Bool, true, false, not, List, [], ◌∷◌, ◌++◌, Option, Some, None}
use Rattle.std.specs.Prelude.{length, slice_get, Contains}
use Rattle.pp_graph.specs.declared.Front.{Front}
use Rattle.pp_graph.specs.Rows.{marked}

abbrev pub open_one : Bool → ℕ
open_one true = 0
open_one false = 1

-- how many marks aren't set
abbrev pub left : List Bool → ℕ
left [] = 0
left (b ∷ bs) = open_one b + left bs

abbrev pub is_unset : Option Bool → Bool
is_unset None = false
is_unset (Some b) = not b

-- whether g has a mark, and it isn't set
abbrev pub unmarked_at : List Bool → ℕ → Bool
unmarked_at marks g = is_unset (slice_get marks g)

-- the marks are of n functions, and those found are the marked ones
pub record IsFront (n : ℕ) (s : Front) : Type 0 where
  pub size : length s.marks ≡ n
  pub count : left s.marks + length s.found ≡ n
  pub found_is : (g : ℕ) → Contains s.found g → marked s.marks g ≡ true
  pub marked_is : (g : ℕ) → marked s.marks g ≡ true → Contains s.found g

-- the front was extended by these functions, as far as they have a mark
pub record Marked (old : Front) (gs : List ℕ) (s : Front) : Type 0 where
  pub more : List ℕ
  pub is : s.found ≡ old.found ++ more
  pub front : IsFront (length old.marks) s
  pub all : (g : ℕ) → Contains gs g → g < length old.marks → Contains s.found g
  pub only : (g : ℕ) → Contains s.found g → Contains old.found g ⊎ Contains gs g
