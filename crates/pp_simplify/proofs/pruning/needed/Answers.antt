use Rattle.std.proofs.Common.{arith, length, subst}
use Rattle.pp_simplify.proofs.Cones.{AreFirst, cone_end, cone_next, cone_start, read_below}
use Rattle.pp_simplify.proofs.pruning.needed.Goals as goal

pub loop-done-init : goal.loop-done-init
loop-done-init c = cone_start _ _ _ _ _ _ (omega arith)
    (subst (λ n. AreFirst (length c.args.steps.now) n c.loop-number.marks.items) (omega arith) c.loop-number.invariant)
    c.mark.ensures

pub mark_through-requires-clause-reads : goal.mark_through-requires-clause-reads
mark_through-requires-clause-reads c =
    read_below _ _ _ _ c.requires.reads (omega arith) c.index-steps-place.is c.loop-done.invariant.len

pub loop-done-preserved : goal.loop-done-preserved
loop-done-preserved c =
    cone_next _ _ _ _ _ _ _ c.requires.reads c.loop-done-test.true c.index-steps-place.is c.mark_through.ensures.marked
    c.mark_through.ensures.unmarked c.loop-done.invariant

pub returns : goal.returns
returns c = cone_end _ _ _ _ _ (omega arith) c.loop-done.invariant
