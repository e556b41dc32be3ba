use Rattle.pp_bounded_cases.specs.Registers.{AreHeld}
use Rattle.pp_bounded_cases.proofs.named.answer_in.Given as goal

abbrev pub invariant-loop : goal.invariant-loop
invariant-loop l = record { held : AreHeld l.table l.trees l.circuit l.symbols }
