use Rattle.std.proofs.Common.{◌++◌, ◌∙◌, sym, ap, arith}
use Rattle.pp_refute.proofs.ReadLines.{none_read, other_read, scanned_whole, lines_same}
use Rattle.pp_refute.specs.LogText.{text_of_lemma}
use Rattle.pp_refute.proofs.reading.lemma_of.Goals as goal

pub returns-in_default-clause-none : goal.returns-in_default-clause-none
returns-in_default-clause-none c =
    none_read c.args.line.now c.loop-byte.reader
    (scanned_whole c.args.line.now c.loop-byte.byte-index c.loop-byte.reader (omega arith) c.loop-byte.invariant)
    (rw c.in_default.is at c.in_ok-lemma.ensures.none)

pub returns-clause-none : goal.returns-clause-none
returns-clause-none c =
    other_read c.args.line.now c.loop-byte.reader c.in-Some.lemma
    (scanned_whole c.args.line.now c.loop-byte.byte-index c.loop-byte.reader (omega arith) c.loop-byte.invariant)
    (rw c.in-Some.is at c.in_ok-lemma.ensures.clause) (rw c.in-Some.is at c.in_ok-lemma.ensures.chain)
    (rw c.in-Some.is at c.in_ok-lemma.ensures.lemma)
    (λ e. lines_same _ _ _ _ c.eq.ensures
    (c.as_slice.ensures.value ∙ c.in_ok-push_lemma.ensures
    ∙ ap (λ z. z ++ text_of_lemma c.in-Some.lemma) c.new-text.ensures.items) (sym e) c.if-eq.false)
