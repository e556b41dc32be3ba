-- While the first check that ended in a way is sought, and the first function that is marked; and the verdicts so far.
use Rattle.std.specs.Prelude.{◌≡◌, ◌<◌, ℕ, Bool, List, Some, length, slice_get}
use Rattle.pp_prog.specs.declared.check.Check.{Check}
use Rattle.pp_prog.specs.declared.program.Program.{Program}
use Rattle.pp_induct.specs.declared.concluding.Unsettled.{Unsettled}
use Rattle.pp_induct.specs.declared.ends.CheckEnd.{CheckEnd}
use Rattle.pp_induct.specs.declared.verdict.Verdict.{Verdict}
use Rattle.pp_induct.specs.Concluding.{EndedBy, IsMarkedIn}
use Rattle.pp_induct.specs.Verdicts.{IsVerdict}

-- none of the first n checks is one of f that ended in the way
abbrev pub NoneBelow : List Check → List CheckEnd → Unsettled → ℕ → ℕ → Type 0
NoneBelow checks ends w f n = (b : ℕ) → b < n → EndedBy checks ends w f b → ⊥

-- none of the first n functions is in the cone of f and marked
abbrev pub NoneMarkedBelow : Program → List Bool → ℕ → ℕ → Type 0
NoneMarkedBelow p marks f n = (g : ℕ) → g < n → IsMarkedIn p marks f g → ⊥

-- each of the first n verdicts is that of the function at its place
pub record AreVerdictsTo (p : Program) (ends : List CheckEnd) (n : ℕ) (verdicts : List Verdict) : Type 0 where
  pub size : length verdicts ≡ n
  pub each : (f : ℕ) (v : Verdict) → slice_get verdicts f ≡ Some v → IsVerdict p ends f v
