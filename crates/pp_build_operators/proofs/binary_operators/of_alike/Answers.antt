use Rattle.std.proofs.Common.{◌∙◌, sym}
use Rattle.pp_build_operators.proofs.TwoOperands.{number_binary, number_moves, order_binary, order_moves}
use Rattle.pp_build_operators.proofs.TwoOperands.{truth_binary, truth_moves}
use Rattle.pp_build_operators.proofs.binary_operators.of_alike.Goals as goal

pub returns-in_err-bit-in-Word-Word-clause-moves : goal.returns-in_err-bit-in-Word-Word-clause-moves
returns-in_err-bit-in-Word-Word-clause-moves g c = rw (c.in-Word-Word.is-0, c.in-Word-Word.is-1)
    (order_moves _ _ g.met.D.Domain.lawful _ _ _ _ c.in-Word-Word.a c.in-Word-Word.b c.requires.fits c.requires.other
    (sym c.is_order.ensures ∙ c.if-is_order.true) c.in_err-bit-in-Word-Word.ensures.adds)

pub returns-in_err-word-in-Word-Word-clause-moves : goal.returns-in_err-word-in-Word-Word-clause-moves
returns-in_err-word-in-Word-Word-clause-moves g c = rw (c.in-Word-Word.is-0, c.in-Word-Word.is-1)
    (number_moves _ _ g.met.D.Domain.lawful _ _ _ _ _ _ c.requires.fits c.requires.other
    (sym c.is_order.ensures ∙ c.if-is_order.false)
    (rw (c.in-Word-Word.is-0, c.in-Word-Word.is-1) at c.requires.sorted) c.in_err-word-in-Word-Word.ensures.adds)

pub returns-in_err-bit-in-Bit-Bit-clause-moves : goal.returns-in_err-bit-in-Bit-Bit-clause-moves
returns-in_err-bit-in-Bit-Bit-clause-moves g c = rw (c.in-Bit-Bit.is-0, c.in-Bit-Bit.is-1)
    (truth_moves _ _ g.met.D.Domain.lawful _ _ _ _ _ _ c.requires.fits c.requires.other
    (rw (c.in-Bit-Bit.is-0, c.in-Bit-Bit.is-1) at c.requires.sorted) c.in_err-bit-in-Bit-Bit.ensures.adds)

pub returns-in_ok-bit-in-Word-Word-clause-moves : goal.returns-in_ok-bit-in-Word-Word-clause-moves
returns-in_ok-bit-in-Word-Word-clause-moves g c = rw (c.in-Word-Word.is-0, c.in-Word-Word.is-1)
    (order_moves _ _ g.met.D.Domain.lawful _ _ _ _ c.in-Word-Word.a c.in-Word-Word.b c.requires.fits c.requires.other
    (sym c.is_order.ensures ∙ c.if-is_order.true) c.in_ok-bit-in-Word-Word.ensures.adds)

pub returns-in_ok-bit-in-Word-Word-clause-answer : goal.returns-in_ok-bit-in-Word-Word-clause-answer
returns-in_ok-bit-in-Word-Word-clause-answer g c = rw (c.in-Word-Word.is-0, c.in-Word-Word.is-1)
    (order_binary _ _ g.met.D.Domain.lawful _ _ _ _ 256 _ _ _ c.requires.fits c.requires.other
    (sym c.is_order.ensures ∙ c.if-is_order.true) c.in_ok-bit-in-Word-Word.ensures.adds
    c.in_ok-bit-in-Word-Word.ensures.stands)

pub returns-in_ok-word-in-Word-Word-clause-moves : goal.returns-in_ok-word-in-Word-Word-clause-moves
returns-in_ok-word-in-Word-Word-clause-moves g c = rw (c.in-Word-Word.is-0, c.in-Word-Word.is-1)
    (number_moves _ _ g.met.D.Domain.lawful _ _ _ _ _ _ c.requires.fits c.requires.other
    (sym c.is_order.ensures ∙ c.if-is_order.false)
    (rw (c.in-Word-Word.is-0, c.in-Word-Word.is-1) at c.requires.sorted) c.in_ok-word-in-Word-Word.ensures.adds)

pub returns-in_ok-word-in-Word-Word-clause-answer : goal.returns-in_ok-word-in-Word-Word-clause-answer
returns-in_ok-word-in-Word-Word-clause-answer g c = rw (c.in-Word-Word.is-0, c.in-Word-Word.is-1)
    (number_binary _ _ g.met.D.Domain.lawful _ _ _ _ _ _ _ _ c.requires.fits c.requires.other
    (sym c.is_order.ensures ∙ c.if-is_order.false) c.in_ok-word-in-Word-Word.ensures.adds
    c.in_ok-word-in-Word-Word.ensures.stands)

pub returns-in_ok-bit-in-Bit-Bit-clause-moves : goal.returns-in_ok-bit-in-Bit-Bit-clause-moves
returns-in_ok-bit-in-Bit-Bit-clause-moves g c = rw (c.in-Bit-Bit.is-0, c.in-Bit-Bit.is-1)
    (truth_moves _ _ g.met.D.Domain.lawful _ _ _ _ _ _ c.requires.fits c.requires.other
    (rw (c.in-Bit-Bit.is-0, c.in-Bit-Bit.is-1) at c.requires.sorted) c.in_ok-bit-in-Bit-Bit.ensures.adds)

pub returns-in_ok-bit-in-Bit-Bit-clause-answer : goal.returns-in_ok-bit-in-Bit-Bit-clause-answer
returns-in_ok-bit-in-Bit-Bit-clause-answer g c = rw (c.in-Bit-Bit.is-0, c.in-Bit-Bit.is-1)
    (truth_binary _ _ g.met.D.Domain.lawful _ _ _ _ 1 _ _ _ c.requires.fits c.requires.other
    c.in_ok-bit-in-Bit-Bit.ensures.adds c.in_ok-bit-in-Bit-Bit.ensures.stands)
