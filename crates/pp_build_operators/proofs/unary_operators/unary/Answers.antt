use Rattle.std.proofs.Common.{arith}
use Rattle.pp_domain.proofs.AnySort.{Moves_gates}
use Rattle.pp_domain.proofs.Composition.{Moves_none, Moves_weaker}
use Rattle.pp_build_operators.proofs.OneOperand.{number_unary, truth_unary}
use Rattle.pp_build_operators.proofs.unary_operators.unary.Goals as goal

pub returns-in_err-word-in-Word-clause-moves : goal.returns-in_err-word-in-Word-clause-moves
returns-in_err-word-in-Word-clause-moves g c =
    Moves_gates _ _ g.met.D.Domain.lawful _ _ _ _ c.requires.fits c.in_err-word-in-Word.ensures.adds

pub returns-in_ok-word-in-Word-clause-moves : goal.returns-in_ok-word-in-Word-clause-moves
returns-in_ok-word-in-Word-clause-moves g c =
    Moves_gates _ _ g.met.D.Domain.lawful _ _ _ _ c.requires.fits c.in_ok-word-in-Word.ensures.adds

pub returns-in_ok-word-in-Word-clause-answer : goal.returns-in_ok-word-in-Word-clause-answer
returns-in_ok-word-in-Word-clause-answer g c = rw c.in-Word.is
    (number_unary _ _ g.met.D.Domain.lawful _ _ _ _ _ _ _ c.requires.fits c.in_ok-word-in-Word.ensures.adds
    c.in_ok-word-in-Word.ensures.stands)

pub returns-in-Bit-clause-moves : goal.returns-in-Bit-clause-moves
returns-in-Bit-clause-moves g c = Moves_weaker _ _ _ _ _ _ 0 _
    (Moves_none _ _ g.met.D.Domain.lawful _ _ c.requires.fits) (omega arith)

pub returns-in-Bit-clause-answer : goal.returns-in-Bit-clause-answer
returns-in-Bit-clause-answer g c = rw c.in-Bit.is
    (truth_unary _ _ g.met.D.Domain.lawful _ _ _ _ _ c.requires.fits c.negated.ensures)
