-- While checks are proved together: which functions are given up, and what holds of the checks of the others. No public
-- clause speaks of it: specs/Cones has what such checks come to. Source: own.
use Rattle.std.specs.Prelude.{◌≡◌, ◌⊎◌, ◌<◌, ℕ, Bool, IsTrue, List, Option, Some, length, slice_get}
use Rattle.pp_graph.specs.Rows.{marked}
use Rattle.pp_prog.specs.declared.check.Check.{Check}
use Rattle.pp_prog.specs.declared.id.CheckId.{CheckId}
use Rattle.pp_prog.specs.declared.program.Program.{Program}
use Rattle.pp_prog.specs.Cone.{InCone}
use Rattle.pp_checks.specs.Closed.{Closed}
use Rattle.pp_induct.specs.declared.ends.CheckEnd.{CheckEnd}
use Rattle.pp_induct.specs.declared.ends.CheckEnd.TheVariants.{Proved, Exhausted, Invalid, Open}
use Rattle.pp_induct.specs.declared.ends.Why.TheVariants.{Size}
use Rattle.pp_induct.specs.declared.limits.Limits.{Limits}
use Rattle.pp_induct.specs.Reports.{IsProvedIn, IsTried, next_round}
use Rattle.pp_induct.specs.Verdicts.{IsProvedOrExhausted}
use Rattle.pp_induction.specs.Ends.{NoGuessFails}

-- the check ended open by its size
abbrev pub IsLargeEnd : CheckEnd → Type 0
IsLargeEnd e = (searched : Option ℕ) × (e ≡ Open searched Size)

-- the round after those that were searched of a check that is open
abbrev pub round_after : CheckEnd → ℕ
round_after (Open searched why) = next_round searched
round_after (Proved n) = 0
round_after (Exhausted n) = 0
round_after (Invalid args n) = 0

-- function number f is given up
abbrev pub IsGivenUp : List Bool → ℕ → Type 0
IsGivenUp marks f = IsTrue (marked marks f)

-- check number c ended open by its size
abbrev pub IsLargeAt : List CheckEnd → ℕ → Type 0
IsLargeAt ends c = (end : CheckEnd) × (slice_get ends c ≡ Some end) × IsLargeEnd end

-- and function number f isn't given up
abbrev pub IsAsked : List CheckEnd → List Bool → ℕ → ℕ → Type 0
IsAsked ends marks f c = IsLargeAt ends c × (IsGivenUp marks f → ⊥)

-- what may hold of a check of function number i, and of its end
abbrev pub OfCheck : Type 1
OfCheck = ℕ → CheckId → CheckEnd → Type 0

module _ (p : Program) where
  -- there is a mark for each function, and with a function each one is given up whose cone has it
  pub record AreGivenUp (marks : List Bool) : Type 0 where
    pub size : length marks ≡ length p.functions
    pub callers : (f g : ℕ) → f < length p.functions → InCone p.functions f g → IsGivenUp marks g → IsGivenUp marks f

  -- those of the first n functions are given up whose cone has f, and no others that weren't
  pub record GivesUpTo (n f : ℕ) (before after : List Bool) : Type 0 where
    pub size : length after ≡ length before
    pub kept : (g : ℕ) → IsGivenUp before g → IsGivenUp after g
    pub callers : (g : ℕ) → g < n → InCone p.functions g f → IsGivenUp after g
    pub only : (g : ℕ) → IsGivenUp after g → IsGivenUp before g ⊎ InCone p.functions g f

  -- f is given up, with those whose cone has it, unless there is hope
  pub record GivesUpUnless (hope : Bool) (f : ℕ) (before after : List Bool) : Type 0 where
    pub marks : AreGivenUp after
    pub kept : (g : ℕ) → IsGivenUp before g → IsGivenUp after g
    pub given_up : IsTrue hope ⊎ IsGivenUp after f

  -- P holds of each of the first n checks, or its function is given up
  abbrev pub HoldsOfOthers : List CheckEnd → OfCheck → ℕ → List Bool → Type 0
  HoldsOfOthers ends P n marks =
      (c : ℕ) (check : Check) (end : CheckEnd) → c < n → slice_get p.checks c ≡ Some check
      → slice_get ends c ≡ Some end → IsGivenUp marks check.function.0 ⊎ P check.function.0 (record { 0 = c }) end

  -- more functions are given up, among them those of the first n checks of which P doesn't hold
  pub record GivesUpOthers (ends : List CheckEnd) (P : OfCheck) (n : ℕ) (before after : List Bool) : Type 0 where
    pub marks : AreGivenUp after
    pub kept : (g : ℕ) → IsGivenUp before g → IsGivenUp after g
    pub others : HoldsOfOthers ends P n after

  module _ (limits : Limits) where
    -- by its end the check is settled, or it is open by its size, and its function isn't closed in the last round
    abbrev pub HasHope : OfCheck
    HasHope i c end =
        IsProvedOrExhausted end
        ⊎ (IsLargeEnd end × (Closed p.types p.functions i limits.rounds limits.depth → ⊥))

    -- where the check is open by its size, the last round is begun, or left to the fronts
    abbrev pub HasTriedSize : OfCheck
    HasTriedSize i c end = IsLargeEnd end → IsTried p limits i c limits.rounds

    -- where it is open by its size, no guess run of the last round fails it
    abbrev pub HasNoGuess : OfCheck
    HasNoGuess i c end = IsLargeEnd end → NoGuessFails p i c limits.rounds

    -- where it is open by its size, it is proved in the last round
    abbrev pub HasProof : OfCheck
    HasProof i c end = IsLargeEnd end → IsProvedIn p limits i c limits.rounds
