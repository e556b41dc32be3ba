use Rattle.pp_domain.proofs.AnySort.{Moves_gates}
use Rattle.pp_domain.proofs.Composition.{Moves_none}
use Rattle.pp_build_operators.proofs.Descents.{number_descent, truth_descent}
use Rattle.pp_build_operators.proofs.descent.goes_down.Goals as goal

pub returns-in_err-down-in-Word-Word-clause-moves : goal.returns-in_err-down-in-Word-Word-clause-moves
returns-in_err-down-in-Word-Word-clause-moves g c = rw (c.in-Word-Word.is-0, c.in-Word-Word.is-1)
    (Moves_gates _ _ g.met.D.Domain.lawful _ _ _ 1024 c.requires.fits c.in_err-down-in-Word-Word.ensures.adds)

pub returns-in_ok-down-in-Word-Word-clause-moves : goal.returns-in_ok-down-in-Word-Word-clause-moves
returns-in_ok-down-in-Word-Word-clause-moves g c = rw (c.in-Word-Word.is-0, c.in-Word-Word.is-1)
    (Moves_gates _ _ g.met.D.Domain.lawful _ _ _ 1024 c.requires.fits c.in_ok-down-in-Word-Word.ensures.adds)

pub returns-in_ok-down-in-Word-Word-clause-answer : goal.returns-in_ok-down-in-Word-Word-clause-answer
returns-in_ok-down-in-Word-Word-clause-answer g c = rw (c.in-Word-Word.is-0, c.in-Word-Word.is-1)
    (number_descent _ _ g.met.D.Domain.lawful _ _ _ 1024 _ _ _ c.requires.fits c.in_ok-down-in-Word-Word.ensures.adds
    c.in_ok-down-in-Word-Word.ensures.stands)

pub returns-in-Bit-Bit-clause-moves : goal.returns-in-Bit-Bit-clause-moves
returns-in-Bit-Bit-clause-moves g c = rw c.in-Bit-Bit.is-0
    (Moves_none _ _ g.met.D.Domain.lawful _ _ c.requires.fits)

pub returns-in-Bit-Bit-clause-answer : goal.returns-in-Bit-Bit-clause-answer
returns-in-Bit-Bit-clause-answer g c = rw (c.in-Bit-Bit.is-0, c.in-Bit-Bit.is-1)
    (truth_descent _ _ g.met.D.Domain.lawful _ _ _ _ _ _ c.requires.fits c.truth.ensures.stands c.negated.ensures)

pub returns-in_ok-down-in-Tree-Tree-clause-answer : goal.returns-in_ok-down-in-Tree-Tree-clause-answer
returns-in_ok-down-in-Tree-Tree-clause-answer g c = rw (c.in-Tree-Tree.is-0, c.in-Tree-Tree.is-1)
    c.in_ok-down-in-Tree-Tree.ensures.answer
