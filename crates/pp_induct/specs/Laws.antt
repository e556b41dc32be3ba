-- Laws of reports: which ends can't come. Source: own.
use Rattle.std.specs.Prelude.{◌≢◌, ℕ, List, Option, Some, slice_get}
use Rattle.pp_prog.specs.declared.id.CheckId.{CheckId}
use Rattle.pp_prog.specs.declared.program.Program.{Program}
use Rattle.pp_prog.specs.declared.value.Value.{Value}
use Rattle.pp_checks.specs.Closed.{Closed}
use Rattle.pp_checks.specs.Plain.{IsPlain}
use Rattle.pp_sound.specs.Counterexample.{IsCounterexample}
use Rattle.pp_sound.specs.Sound.{IsCheckOf}
use Rattle.pp_induct.specs.declared.ends.CheckEnd.TheVariants.{Exhausted, Open}
use Rattle.pp_induct.specs.declared.ends.Why.TheVariants.{Rounds}
use Rattle.pp_induct.specs.declared.limits.Limits.{Limits}
use Rattle.pp_induct.specs.declared.verdict.Report.{Report}
use Rattle.pp_induct.specs.Reports.{IsReport}

module _ (report : Report) (c : CheckId) where
  -- the check isn't open for want of rounds
  abbrev pub HasRoundsEnough : Type 0
  HasRoundsEnough = (searched : Option ℕ) → slice_get report.checks c.0 ≢ Some (Open searched Rounds)

  -- the check isn't exhausted
  abbrev pub IsNotExhausted : Type 0
  IsNotExhausted = (n : ℕ) → slice_get report.checks c.0 ≢ Some (Exhausted n)

-- a check whose function is closed at the asked number of rounds and the asked depth isn't open for want of rounds
abbrev pub ClosedAreDecided : Type 0
ClosedAreDecided =
    (p : Program) (limits : Limits) (report : Report) → IsReport p limits report → (i : ℕ) (c : CheckId)
    → IsCheckOf p i c.0 → Closed p.types p.functions i limits.rounds limits.depth → HasRoundsEnough report c

-- a plain descent isn't open for want of rounds
abbrev pub PlainAreDecided : Type 0
PlainAreDecided =
    (p : Program) (limits : Limits) (report : Report) → IsReport p limits report → (i : ℕ) (c : CheckId)
    → IsCheckOf p i c.0 → IsPlain p.functions c.0 → HasRoundsEnough report c

-- a check that arguments up to the asked depth fail, with the asked number of rounds as fuel, is neither exhausted nor
-- open for want of rounds
abbrev pub FailingAreFound : Type 0
FailingAreFound =
    (p : Program) (limits : Limits) (report : Report) → IsReport p limits report → (i : ℕ) (c : CheckId)
    → IsCheckOf p i c.0 → (args : List Value) → IsCounterexample p i c limits.rounds limits.depth args
    → IsNotExhausted report c × HasRoundsEnough report c
