use Rattle.pp_turns.proofs.FirstTurns.{AreFirstTo}
use Rattle.pp_turns.proofs.starting.first_turns.Given as goal

abbrev pub invariant-loop-c : goal.invariant-loop-c
invariant-loop-c l = AreFirstTo l.program l.c l.turns
