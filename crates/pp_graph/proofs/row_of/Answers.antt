use Rattle.std.proofs.Common.{◌<◌, length, get_or, arith, subst, sym, ap, ◌∙◌}
use Rattle.pp_graph.specs.Reaches.{calls_of}
use Rattle.pp_graph.specs.Fronts.{Marked, IsFront}
use Rattle.pp_graph.proofs.Marks.{stage_start, stage_turn, stage_end, stage_within, any_default}
use Rattle.pp_graph.proofs.row_of.Goals as goal

pub loop-next-init : goal.loop-next-init
loop-next-init c = stage_start c.args.calls.now c.args.f c.in_ok-start.start c.in_ok-front.front
    c.in_ok-start.ensures.none c.in_ok-start.ensures.is.size
    (subst (λ l. Marked c.in_ok-start.start l c.in_ok-front.front) c.called.ensures c.in_ok-front.ensures)

pub called-requires-in-loop-next : goal.called-requires-in-loop-next
called-requires-in-loop-next c =
    let s = c.loop-next.front in
    let lt : c.loop-next.next < length s.found = omega (arith, c.loop-next-test.true, c.len.ensures) in
    stage_within c.args.calls.now c.args.f c.loop-next.next _ s c.loop-next.invariant lt
    (ap (λ l. get_or l c.loop-next.next 0) c.as_slice.ensures)

pub mark_all-requires-in-loop-next : goal.mark_all-requires-in-loop-next
mark_all-requires-in-loop-next c =
    subst (λ n. IsFront n c.loop-next.front) (sym c.loop-next.invariant.front.size) c.loop-next.invariant.front

pub loop-next-preserved : goal.loop-next-preserved
loop-next-preserved c =
    let s = c.loop-next.front in
    let next = c.loop-next.next in
    let lt : next < length s.found = omega (arith, c.loop-next-test.true, c.len.ensures) in
    let g = get_or s.found next 0 in
    let read = ap (λ l. get_or l next 0) c.as_slice.ensures in
    let called = c.called-in-loop-next.ensures ∙ ap (calls_of c.args.calls.now) read in
    stage_turn c.args.calls.now c.args.f next s c.in_ok-front-2.front g c.loop-next.invariant lt
    (any_default s.found next 0 g lt) (subst (λ l. Marked s l c.in_ok-front-2.front) called c.in_ok-front-2.ensures)

pub returns : goal.returns
returns c = stage_end c.args.calls.now c.args.f c.loop-next.next c.loop-next.front c.loop-next.invariant
    (omega (arith, c.loop-next-test.false, c.len.ensures))
