-- While verdicts are found: what the private functions of src/concluding.rt say of each other. No public clause speaks
-- of it: specs/Verdicts has the table. Source: own.
use Rattle.std.specs.Prelude.{◌≡◌, ◌↔◌, ◌<◌, ℕ, Bool, List, IsTrue, length}
use Rattle.pp_graph.specs.Rows.{marked}
use Rattle.pp_prog.specs.declared.check.Check.{Check}
use Rattle.pp_prog.specs.declared.program.Program.{Program}
use Rattle.pp_induct.specs.declared.concluding.Unsettled.{Unsettled}
use Rattle.pp_induct.specs.declared.concluding.Unsettled.TheVariants as way
use Rattle.pp_induct.specs.declared.ends.CheckEnd.{CheckEnd}
use Rattle.pp_induct.specs.Verdicts.{Ended, HasUndone, IsInCone, IsInvalidEnd, IsOpenEnd}

-- which ends are of this way
abbrev pub IsOf : Unsettled → CheckEnd → Type 0
IsOf way.Invalid = IsInvalidEnd
IsOf way.Open = IsOpenEnd

-- check number c is one of function number f, and ended in this way
abbrev pub EndedBy : List Check → List CheckEnd → Unsettled → ℕ → ℕ → Type 0
EndedBy checks ends w = Ended checks ends (IsOf w)

-- the marks of the first n functions are at those that have a check which isn't settled
pub record MarkUndone (p : Program) (ends : List CheckEnd) (marks : List Bool) (n : ℕ) : Type 0 where
  pub size : length marks ≡ n
  pub each : (f : ℕ) → f < n → IsTrue (marked marks f) ↔ HasUndone p.checks ends f

-- function number g is in the cone of f, and marked
abbrev pub IsMarkedIn : Program → List Bool → ℕ → ℕ → Type 0
IsMarkedIn p marks f g = IsInCone p f g × IsTrue (marked marks g)
