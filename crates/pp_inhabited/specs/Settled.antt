-- What visits do to a table. Source: own.
use Rattle.std.specs.Prelude.{◌≡◌, ◌<◌, ℕ, ◌+◌, Bool, true, false, if◌then◌else◌, List, [], ◌∷◌, Some, All, length}
use Rattle.std.specs.Prelude.{slice_get}
use Rattle.pp_inhabited.specs.Laws.{IsSound, IsClosedAt}
use Rattle.pp_typed.specs.declared.typed.TypedCtor.{TypedCtor}
use Rattle.pp_typed.specs.declared.typed.TypedRoot.{TypedRoot}

-- how many rows of a table aren't written
abbrev pub rows_left : List Bool → ℕ
rows_left [] = 0
rows_left (b ∷ bs) = (if b then 0 else 1) + rows_left bs

module _ (roots : List TypedRoot) (ctors : List TypedCtor) where
  -- each constructor is one of a root of the list
  abbrev pub HaveRoots : Type 0
  HaveRoots = All (λ (c : TypedCtor). c.root < length roots) ctors

  -- the table is closed at the constructor at this place and this mask
  abbrev pub IsClosedAtPlace : ℕ → ℕ → List Bool → Type 0
  IsClosedAtPlace c m t = (k : TypedCtor) → slice_get ctors c ≡ Some k → IsClosedAt roots ctors t k m

  -- the table is closed at the constructor at this place and the first masks
  abbrev pub IsClosedBelow : ℕ → ℕ → List Bool → Type 0
  IsClosedBelow c n t = (m : ℕ) → m < n → IsClosedAtPlace c m t

  -- the table is closed at the first constructors
  abbrev pub AreClosed : ℕ → List Bool → Type 0
  AreClosed n t = (c : ℕ) → c < n → IsClosedBelow c 16 t

  -- A visit kept the table sound. It wrote rows, or found that this holds of the table.
  pub record Visited (old new : List Bool) (changed : Bool) (Holds : List Bool → Type 0) : Type 0 where
    pub size : length new ≡ length old
    pub sound : IsSound roots ctors new
    pub quiet : changed ≡ false → (new ≡ old) × Holds old
    pub less : changed ≡ true → rows_left new < rows_left old
