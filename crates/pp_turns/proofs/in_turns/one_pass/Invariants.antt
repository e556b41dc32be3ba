use Rattle.std.proofs.Common.{◌≡◌, ℕ}
use Rattle.pp_turns.specs.Passes.{AreNamed}
use Rattle.pp_turns.specs.Turns.{AreTurns}
use Rattle.pp_turns.proofs.Passing.{AreNamedTo}
use Rattle.pp_turns.proofs.in_turns.one_pass.Given as goal

abbrev pub invariant-loop-n : goal.invariant-loop-n
invariant-loop-n l = record {
  turns : AreTurns l.program l.after;
  limits : l.after.limits ≡ l.fn.turns.limits;
  named : (k : ℕ) → AreNamed l.program k l.fn.turns.checks → AreNamedTo l.program k l.order l.n l.after.checks;
}
