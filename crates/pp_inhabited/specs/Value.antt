-- Which roots have a value, whatever their type parameters stand for. Source: own.
use Rattle.std.specs.Prelude.{◌≡◌, ◌<◌, ℕ, List, Some, slice_get}
use Rattle.pp_typed.specs.Value.{IsInhabited}
use Rattle.pp_typed.specs.declared.typed.TypedCtor.{TypedCtor}
use Rattle.pp_typed.specs.declared.typed.TypedRoot.{TypedRoot}

-- each root has a value, whatever its type parameters stand for
abbrev pub AreInhabited : List TypedRoot → List TypedCtor → Type 0
AreInhabited roots ctors = (r : ℕ) (root : TypedRoot) → slice_get roots r ≡ Some root → IsInhabited roots ctors r root

-- the root at this place is the first that has no value
pub record IsFirstUninhabited (roots : List TypedRoot) (ctors : List TypedCtor) (r : ℕ) : Type 0 where
  pub root : TypedRoot
  pub there : slice_get roots r ≡ Some root
  pub uninhabited : IsInhabited roots ctors r root → ⊥
  pub first : (q : ℕ) (other : TypedRoot) → q < r → slice_get roots q ≡ Some other → IsInhabited roots ctors q other
