-- Which tables are exact. Source: own.
use Rattle.std.specs.Prelude.{◌≡◌, ◌↔◌, ◌<◌, ◌≤◌, ℕ, Bool, true, false, List, All, Some, length, slice_get, Contains}
use Rattle.pp_inhabited.specs.Table.{look, all_live, is_dead}
use Rattle.pp_typed.specs.Value.{HasValue, IsInhabited}
use Rattle.pp_typed.specs.declared.sort.GenericSort.{GenericSort}
use Rattle.pp_typed.specs.declared.sort.GenericSort.TheVariants as sort
use Rattle.pp_typed.specs.declared.typed.TypedCtor.{TypedCtor}
use Rattle.pp_typed.specs.declared.typed.TypedRoot.{TypedRoot}

-- each root has at most four type parameters
abbrev pub FewTypeParams : List TypedRoot → Type 0
FewTypeParams = All (λ (r : TypedRoot). r.type_params ≤ 4)

module _ (roots : List TypedRoot) (ctors : List TypedCtor) (t : List Bool) where
  -- the arguments that the mask doesn't name have values
  abbrev pub FitsMask : ℕ → List GenericSort → Type 0
  FitsMask m args = (i : ℕ) (s : GenericSort) → slice_get args i ≡ Some s → is_dead m i ≡ false → HasValue roots ctors s

  -- what the table says has a value
  abbrev pub IsSound : Type 0
  IsSound = (r m : ℕ) (root : TypedRoot) (args : List GenericSort) → m < 16 → look t r m ≡ true
      → slice_get roots r ≡ Some root → length args ≡ root.type_params → FitsMask m args
      → HasValue roots ctors (sort.Root r args)

  -- a constructor whose fields live at a mask is in the table at that mask
  abbrev pub IsClosedAt : TypedCtor → ℕ → Type 0
  IsClosedAt c m = all_live roots t m c.fields ≡ true → look t c.root m ≡ true

  -- the table has each such constructor at each mask
  abbrev pub IsClosed : Type 0
  IsClosed = (c : TypedCtor) (m : ℕ) → Contains ctors c → m < 16 → IsClosedAt c m

-- a table that is sound and closed says exactly which roots have a value
abbrev pub ClosedTablesAreExact : Type 0
ClosedTablesAreExact = (roots : List TypedRoot) (ctors : List TypedCtor) (t : List Bool) → FewTypeParams roots
    → IsSound roots ctors t → IsClosed roots ctors t
    → (r : ℕ) (root : TypedRoot) → slice_get roots r ≡ Some root → IsInhabited roots ctors r root ↔ (look t r 0 ≡ true)
