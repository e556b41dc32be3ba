use Rattle.pp_build_operators.proofs.TwoOperands.{differ_binary, equal_binary}
use Rattle.pp_build_operators.proofs.binary_operators.binary.Goals as goal

pub returns-in_ok-same-in-Equal-clause-answer : goal.returns-in_ok-same-in-Equal-clause-answer
returns-in_ok-same-in-Equal-clause-answer g c = rw c.in-Equal.is
    (equal_binary _ _ _ _ _ _ _ _ _ c.in_ok-same-in-Equal.ensures.looks
    c.in_ok-same-in-Equal.ensures.answer)

pub returns-in_ok-same-in-Differ-clause-answer : goal.returns-in_ok-same-in-Differ-clause-answer
returns-in_ok-same-in-Differ-clause-answer g c = rw c.in-Differ.is
    (differ_binary _ _ _ _ _ _ _ _ _ _ c.in_ok-same-in-Differ.ensures.looks
    c.in_ok-same-in-Differ.ensures.answer c.negated.ensures)
