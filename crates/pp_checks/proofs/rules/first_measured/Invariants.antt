use Rattle.std.proofs.Common.{◌<◌, ℕ, slice_get, IsTrue}
use Rattle.pp_prog.specs.Calls.{OneGroup}
use Rattle.pp_prog.specs.Valid.{has_measure}
use Rattle.pp_checks.proofs.rules.first_measured.Given as goal

abbrev pub invariant-loop-g : goal.invariant-loop-g
invariant-loop-g l =
    (h : ℕ) → h < l.g → OneGroup l.program.functions l.f.0 h → IsTrue (has_measure (slice_get l.program.functions
    h)) → ⊥
