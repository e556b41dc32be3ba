-- Plain descents. Source: own.
use Rattle.std.specs.Prelude.{ℕ}
use Rattle.pp_prog.specs.declared.id.CheckId.{CheckId}
use Rattle.pp_prog.specs.declared.program.Program.{Program}
use Rattle.pp_sound.specs.Sound.{IsCheckOf}
use Rattle.pp_checks.specs.Plain.{IsPlain}
use Rattle.pp_checks.specs.Plan.{IsPlanOf, Plan}
use Rattle.pp_induction.specs.Ends.{NoGuessFails, NoRunFails}

-- in a program that has a plan, no run and no guess run fails a measure check that is a plain descent
pub record PlainNeverFail : Type 0 where
  pub runs : (plan : Plan) (p : Program) → IsPlanOf plan p → (i : ℕ) (c : CheckId) → IsCheckOf p i c.0
      → IsPlain p.functions c.0 → (n : ℕ) → NoRunFails p i c n
  pub guesses : (plan : Plan) (p : Program) → IsPlanOf plan p → (i : ℕ) (c : CheckId) → IsCheckOf p i c.0
      → IsPlain p.functions c.0 → (n : ℕ) → NoGuessFails p i c n
