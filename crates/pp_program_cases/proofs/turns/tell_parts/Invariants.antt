use Rattle.pp_turns.specs.Turns.{AreTurns}
use Rattle.pp_program_cases.proofs.turns.tell_parts.Given as goal

abbrev pub invariant-loop : goal.invariant-loop
invariant-loop l = AreTurns l.program l.turns
