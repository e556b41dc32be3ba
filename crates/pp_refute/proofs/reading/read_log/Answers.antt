use Rattle.pp_refute.proofs.ReadLines.{reads_more, reads_only, wrong_end, wrong_words, some_left, none_left}
use Rattle.pp_refute.proofs.reading.read_log.Goals as goal

pub returns-in_default-clause-cause : goal.returns-in_default-clause-cause
returns-in_default-clause-cause c =
    wrong_end c.args.bytes.now c.loop-rest.log c.loop-rest.rest.now c.loop-rest.number c.loop-rest.invariant
    (some_left _ _ c.is_empty.ensures c.loop-rest-test.true) c.in_default.ensures.none

pub returns-in_default-2-clause-cause : goal.returns-in_default-2-clause-cause
returns-in_default-2-clause-cause c =
    wrong_words c.args.bytes.now c.loop-rest.log c.loop-rest.rest.now c.in-Some.line.now c.in-Some.after.now
    c.loop-rest.number c.loop-rest.invariant (some_left _ _ c.is_empty.ensures c.loop-rest-test.true)
    c.in-Some.ensures.some (rw c.in_default-2.is at c.in_ok-lemma.ensures.none)

pub loop-rest-preserved : goal.loop-rest-preserved
loop-rest-preserved c =
    rw c.in_ok-push.ensures.ok
    (reads_more c.args.bytes.now c.loop-rest.log c.loop-rest.rest.now c.in-Some.line.now c.in-Some.after.now
    c.loop-rest.number c.in-Some-2.lemma c.loop-rest.invariant c.in-Some.ensures.some
    (rw c.in-Some-2.is at c.in_ok-lemma.ensures.text) (rw c.in-Some-2.is at c.in_ok-lemma.ensures.lemma))

pub returns-clause-only : goal.returns-clause-only
returns-clause-only c =
    reads_only c.args.bytes.now c.loop-rest.log c.loop-rest.rest.now c.loop-rest.number
    (none_left _ _ c.is_empty.ensures c.loop-rest-test.false) c.loop-rest.invariant
