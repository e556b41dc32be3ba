use Rattle.std.proofs.Common.{arith, refl}
use Rattle.pp_program_cases.proofs.formula.formula_of_round.Goals as goal

pub formula_of-requires-clause-size : goal.formula_of-requires-clause-size
formula_of-requires-clause-size c = omega (arith, c.in_ok-question.ensures.question.small, c.requires.size)

pub formula_of-requires-clause-fails : goal.formula_of-requires-clause-fails
formula_of-requires-clause-fails c = (c.in_ok-question.ensures.question.guess refl).fails

pub formula_of-requires-clause-circuit_ok : goal.formula_of-requires-clause-circuit_ok
formula_of-requires-clause-circuit_ok c = (c.in_ok-question.ensures.question.guess refl).circuit_ok
