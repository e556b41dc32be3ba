-- What is known of the work that the checks of a function share. Source: own.
use Rattle.std.specs.Prelude.{ℕ, All, List, Option, Some, None}
use Rattle.pp_prog.specs.declared.program.Program.{Program}
use Rattle.pp_induct.specs.declared.limits.Limits.{Limits}
use Rattle.pp_small.specs.declared.failures.Failure.{Failure}
use Rattle.pp_small.specs.Failing.{IsFailure}
use Rattle.pp_verify.specs.declared.shared.Shared.{Shared}
use Rattle.pp_verify.specs.Sizes.{AreSizes}

-- the arguments that were found fail their checks, which are those of function number i, with the fuel of the last
-- round, once they were looked for
abbrev pub AreFailures : Program → Limits → ℕ → Option (List Failure) → Type 0
AreFailures p limits i None = Unit {0}
AreFailures p limits i (Some fs) = All (IsFailure p i limits.rounds limits.depth) fs

-- what the checks of function number i share is so
pub record AreShared (p : Program) (limits : Limits) (i : ℕ) (s : Shared) : Type 0 where
  pub sizes : AreSizes p i limits.depth s.sizes
  pub lowest : AreSizes p i 1 s.lowest
  pub failures : AreFailures p limits i s.failures
