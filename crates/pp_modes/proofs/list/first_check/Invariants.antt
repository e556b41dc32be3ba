use Rattle.std.proofs.Common.{◌≡◌, ◌<◌, ℕ}
use Rattle.std.specs.Prelude.{Some, slice_get}
use Rattle.pp_prog.specs.declared.check.Check.{Check}
use Rattle.pp_modes.proofs.list.first_check.Given as goal

abbrev pub invariant-loop-i : goal.invariant-loop-i
invariant-loop-i l = (c : ℕ) (check : Check) → c < l.i → slice_get l.program.checks c ≡ Some check
    → check.function.0 ≡ l.f → ⊥
