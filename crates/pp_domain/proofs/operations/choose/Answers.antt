use Rattle.pp_domain.proofs.AnySort.{Moves_gates, bits_chosen, trees_chosen, words_chosen}
use Rattle.pp_domain.proofs.operations.choose.Goals as goal

pub returns-in_err-word-in-Word-Word-clause-moves : goal.returns-in_err-word-in-Word-Word-clause-moves
returns-in_err-word-in-Word-Word-clause-moves g c = rw (c.in-Word-Word.is-0, c.in-Word-Word.is-1)
    (Moves_gates _ _ g.met.D.Domain.lawful _ _ _ 32 c.requires.fits c.in_err-word-in-Word-Word.ensures.adds)

pub returns-in_err-bit-in-Bit-Bit-clause-moves : goal.returns-in_err-bit-in-Bit-Bit-clause-moves
returns-in_err-bit-in-Bit-Bit-clause-moves g c = rw (c.in-Bit-Bit.is-0, c.in-Bit-Bit.is-1)
    (Moves_gates _ _ g.met.D.Domain.lawful _ _ _ 1 c.requires.fits c.in_err-bit-in-Bit-Bit.ensures.adds)

pub returns-in_ok-word-in-Word-Word-clause-moves : goal.returns-in_ok-word-in-Word-Word-clause-moves
returns-in_ok-word-in-Word-Word-clause-moves g c = rw (c.in-Word-Word.is-0, c.in-Word-Word.is-1)
    (Moves_gates _ _ g.met.D.Domain.lawful _ _ _ 32 c.requires.fits c.in_ok-word-in-Word-Word.ensures.adds)

pub returns-in_ok-word-in-Word-Word-clause-answer : goal.returns-in_ok-word-in-Word-Word-clause-answer
returns-in_ok-word-in-Word-Word-clause-answer g c = rw (c.in-Word-Word.is-0, c.in-Word-Word.is-1)
    (words_chosen _ _ g.met.D.Domain.lawful _ _ _ 32 _ _ _ _ c.requires.fits c.in_ok-word-in-Word-Word.ensures.adds
    c.in_ok-word-in-Word-Word.ensures.stands)

pub returns-in_ok-bit-in-Bit-Bit-clause-moves : goal.returns-in_ok-bit-in-Bit-Bit-clause-moves
returns-in_ok-bit-in-Bit-Bit-clause-moves g c = rw (c.in-Bit-Bit.is-0, c.in-Bit-Bit.is-1)
    (Moves_gates _ _ g.met.D.Domain.lawful _ _ _ 1 c.requires.fits c.in_ok-bit-in-Bit-Bit.ensures.adds)

pub returns-in_ok-bit-in-Bit-Bit-clause-answer : goal.returns-in_ok-bit-in-Bit-Bit-clause-answer
returns-in_ok-bit-in-Bit-Bit-clause-answer g c = rw (c.in-Bit-Bit.is-0, c.in-Bit-Bit.is-1)
    (bits_chosen _ _ g.met.D.Domain.lawful _ _ _ 1 _ _ _ _ c.requires.fits c.in_ok-bit-in-Bit-Bit.ensures.adds
    c.in_ok-bit-in-Bit-Bit.ensures.stands)

pub returns-in_ok-tree-in-Tree-Tree-clause-answer : goal.returns-in_ok-tree-in-Tree-Tree-clause-answer
returns-in_ok-tree-in-Tree-Tree-clause-answer g c = rw (c.in-Tree-Tree.is-0, c.in-Tree-Tree.is-1)
    (trees_chosen _ _ g.met.D.Domain.lawful _ _ _ _ _ _ _ _ c.in_ok-tree-in-Tree-Tree.ensures.answer)
