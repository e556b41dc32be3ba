use Rattle.std.proofs.Common.{◌≡◌}
use Rattle.pp_turns.specs.Passes.{AreNamed}
use Rattle.pp_turns.specs.Turns.{AreTurns}
use Rattle.pp_turns.proofs.in_turns.verify_in_turns.Given as goal

abbrev pub invariant-loop-pass : goal.invariant-loop-pass
invariant-loop-pass l = record {
  turns : AreTurns l.program l.turns;
  limits : l.turns.limits ≡ l.fn.limits;
  named : AreNamed l.program l._pass l.turns.checks;
}
