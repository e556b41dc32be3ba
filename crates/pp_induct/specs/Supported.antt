-- What stands behind the end of a check that is settled. Source: own.
use Rattle.std.specs.Prelude.{◌≡◌, ◌≤◌, ℕ, List, Some, slice_get}
use Rattle.pp_prog.specs.declared.check.Check.{Check}
use Rattle.pp_prog.specs.declared.id.CheckId.{CheckId}
use Rattle.pp_prog.specs.declared.program.Program.{Program}
use Rattle.pp_induction.specs.Ends.{IsExhausted, IsProved}
use Rattle.pp_induct.specs.declared.ends.CheckEnd.{CheckEnd}
use Rattle.pp_induct.specs.declared.ends.CheckEnd.TheVariants.{Proved, Exhausted, Invalid, Open}

module _ (p : Program) (rounds depth : ℕ) where
  -- check c of function f ended so: where it is proved, no guess run of that round fails it, and no run on arguments
  -- up to the depth; where it is exhausted, f is closed there, and no run fails it. The round is at most `rounds`. Of
  -- other ends nothing is asked.
  abbrev pub IsSupported : ℕ → CheckId → CheckEnd → Type 0
  IsSupported f c (Proved n) = (n ≤ rounds) × IsProved p f c n depth
  IsSupported f c (Exhausted n) = (n ≤ rounds) × IsExhausted p f c n depth
  IsSupported f c (Invalid args n) = Unit {0}
  IsSupported f c (Open searched why) = Unit {0}

  -- the end of each check is supported
  abbrev pub AreSupported : List CheckEnd → Type 0
  AreSupported ends =
      (c : ℕ) (check : Check) (end : CheckEnd) → slice_get p.checks c ≡ Some check → slice_get ends c ≡ Some end
      → IsSupported check.function.0 (record { 0 = c }) end
