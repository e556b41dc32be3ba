use Rattle.std.proofs.Common.{get_or, sym, subst, take}
use Rattle.std.proofs.lemmas.List.{take_more}
use Rattle.pp_graph.specs.Fronts.{Marked, IsFront}
use Rattle.pp_graph.proofs.Marks.{marked_none, marked_then}
use Rattle.pp_graph.proofs.mark_all.Goals as goal

pub mark-requires : goal.mark-requires
mark-requires c = subst (λ n. IsFront n c.loop-i.all) (sym c.loop-i.invariant.front.size) c.loop-i.invariant.front

pub loop-i-init : goal.loop-i-init
loop-i-init c = marked_none c.args.front c.requires

pub loop-i-preserved : goal.loop-i-preserved
loop-i-preserved c =
    let i = c.loop-i.i in
    let gs = c.args.gs.now in
    subst (λ l. Marked c.args.front l c.in_ok-all.all) (sym (take_more gs i 0 c.loop-i-test.true))
    (marked_then c.args.front c.loop-i.all c.in_ok-all.all (take i gs) (get_or gs i 0) c.loop-i.invariant
    c.in_ok-all.ensures)
