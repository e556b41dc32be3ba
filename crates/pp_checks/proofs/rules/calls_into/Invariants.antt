use Rattle.std.proofs.Common.{ℕ, take, Contains}
use Rattle.pp_prog.specs.Calls.{OneGroup}
use Rattle.pp_checks.proofs.rules.calls_into.Given as goal

abbrev pub invariant-loop-g : goal.invariant-loop-g
invariant-loop-g l = (h : ℕ) → Contains (take l.g-index l.called) h → OneGroup l.program.functions l.f.0 h → ⊥
