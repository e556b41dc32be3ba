-- Which ends change where checks are proved together that are open for the size of their rounds. Source: own.
use Rattle.std.specs.Prelude.{◌≡◌, ◌⊎◌, ℕ, List, Option, Some, slice_get}
use Rattle.pp_induct.specs.declared.ends.CheckEnd.{CheckEnd}
use Rattle.pp_induct.specs.declared.ends.CheckEnd.TheVariants.{Proved, Open}
use Rattle.pp_induct.specs.declared.ends.Why.TheVariants.{Size}
use Rattle.pp_induct.specs.declared.limits.Limits.{Limits}

module _ (limits : Limits) where
  -- a check was open by its size, and now is proved in the last round
  abbrev pub IsProvedNow : Option CheckEnd → Option CheckEnd → Type 0
  IsProvedNow before after =
      (searched : Option ℕ) × (before ≡ Some (Open searched Size)) × (after ≡ Some (Proved limits.rounds))

  -- its end is kept, or it is proved now
  abbrev pub IsKeptOrProved : Option CheckEnd → Option CheckEnd → Type 0
  IsKeptOrProved before after = (after ≡ before) ⊎ IsProvedNow before after

  -- so it is with each check
  abbrev pub AreKeptOrProved : List CheckEnd → List CheckEnd → Type 0
  AreKeptOrProved before after = (c : ℕ) → IsKeptOrProved (slice_get before c) (slice_get after c)
