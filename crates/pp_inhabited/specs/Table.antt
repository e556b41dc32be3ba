-- A table of which roots have a value, for each choice of type parameters that have none. Source: own.
use Rattle.std.specs.Prelude.{◌≡◌, ◌<◌, ℕ, zero, suc, ◌+◌, ◌*◌, ◌/◌, ◌%◌, Bool, true, false, not, ◌&&◌, nat_eq}
use Rattle.std.specs.Prelude.{if◌then◌else◌, List, [], ◌∷◌, Option, Some, None, length, slice_get, slice_index_or}
use Rattle.pp_typed.specs.declared.sort.GenericSort.{GenericSort}
use Rattle.pp_typed.specs.declared.sort.GenericSort.TheFolds.{fold-GenericSort}
use Rattle.pp_typed.specs.declared.sort.GenericSort.TheOpen as layer
use Rattle.pp_typed.specs.declared.typed.TypedRoot.{TypedRoot}

-- the number whose binary digits say which of these have no value, the first in the lowest digit
abbrev pub mask_of : List Bool → ℕ
mask_of [] = 0
mask_of (b ∷ bs) = (if b then 0 else 1) + 2 * mask_of bs

-- whether the digit at a place is 1
abbrev pub is_dead : ℕ → ℕ → Bool
is_dead m zero = nat_eq (m % 2) 1
is_dead m (suc i) = is_dead (m / 2) i

-- the row of a root at a mask
abbrev pub look : List Bool → ℕ → ℕ → Bool
look t r m = slice_index_or t (16 * r + m) false

-- a root has so many arguments
abbrev pub has_arity : Option TypedRoot → ℕ → Bool
has_arity None n = false
has_arity (Some root) n = nat_eq n root.type_params

module _ (roots : List TypedRoot) (t : List Bool) (m : ℕ) where
  abbrev pub lives_step : layer.GenericSort-F Bool → Bool
  lives_step layer.Int = true
  lives_step layer.Bool = true
  lives_step (layer.Param i) = not (is_dead m i)
  lives_step (layer.Root r parts) = has_arity (slice_get roots r) (length parts) && look t r (mask_of parts)

  -- whether a sort has a value by the table, where the type parameters of the mask have none
  abbrev pub lives : GenericSort → Bool
  lives = fold-GenericSort Bool lives_step

  abbrev pub all_live : List GenericSort → Bool
  all_live [] = true
  all_live (s ∷ ss) = lives s && all_live ss

-- each of the first roots has the row at which no type parameter is without a value
abbrev pub NoneUnwritten : List Bool → ℕ → Type 0
NoneUnwritten t n = (r : ℕ) → r < n → look t r 0 ≡ true

-- the first of the roots that hasn't it
pub record IsFirstUnwritten (t : List Bool) (n r : ℕ) : Type 0 where
  pub within : r < n
  pub unwritten : look t r 0 ≡ false
  pub first : NoneUnwritten t r
