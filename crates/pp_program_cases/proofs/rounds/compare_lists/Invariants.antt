use Rattle.pp_program_cases.specs.Round.{CanAsk}
use Rattle.pp_program_cases.proofs.rounds.compare_lists.Given as goal

abbrev pub invariant-loop-place : goal.invariant-loop-place
invariant-loop-place l = CanAsk l.program.types l.question
