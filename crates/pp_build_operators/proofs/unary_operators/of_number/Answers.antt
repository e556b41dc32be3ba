use Rattle.pp_build_operators.proofs.Numbers.{flip_number, neg_number}
use Rattle.pp_build_operators.proofs.unary_operators.of_number.Goals as goal

pub returns-in_ok-word-in-Neg-clause-stands : goal.returns-in_ok-word-in-Neg-clause-stands
returns-in_ok-word-in-Neg-clause-stands c = rw c.in-Neg.is (neg_number _ _ _ c.in_ok-word-in-Neg.ensures.stands)

pub returns-in_ok-word-in-Flip-clause-stands : goal.returns-in_ok-word-in-Flip-clause-stands
returns-in_ok-word-in-Flip-clause-stands c = rw c.in-Flip.is (flip_number _ _ _ c.in_ok-word-in-Flip.ensures.stands)
