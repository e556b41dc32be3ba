use Rattle.std.proofs.Common.{arith, subst}
use Rattle.std.proofs.lemmas.Grind.{common_steps}
use Rattle.std.proofs.lemmas.List.{take_all}
use Rattle.pp_gate.specs.Marks.{Marks}
use Rattle.pp_gate.proofs.Marking.{marks_more}
use Rattle.pp_gate.proofs.Cones.{cone_start, cone_next, cone_end}
use Rattle.pp_gate.proofs.Places.{at_read}
use Rattle.pp_gate.proofs.circuit.Circuit.cone.Goals as goal

pub loop-i-preserved : goal.loop-i-preserved
loop-i-preserved c =
    grind (arith, common_steps, marks_more _ _ _ _ _ c.loop-i.invariant c.mark.ensures)

pub loop-done-init : goal.loop-done-init
loop-done-init c = cone_start _ _ _ (subst (Marks _ _) (take_all _ _ (omega arith)) c.loop-i.invariant)

pub mark_through-requires-clause-fits : goal.mark_through-requires-clause-fits
mark_through-requires-clause-fits c =
    c.as_slice-gates.ensures.circuit.fits _ _
    (at_read c.as_slice-gates.result.now _ _ (omega arith) c.index-gates-place.is)

pub loop-done-preserved : goal.loop-done-preserved
loop-done-preserved c =
    cone_next _ _ _ _ _ _ _ c.as_slice-gates.ensures.circuit c.index-gates-place.is (omega arith)
    c.mark_through.ensures.marked c.mark_through.ensures.unmarked c.loop-done.invariant

pub returns : goal.returns
returns c = cone_end _ _ _ _ _ c.as_slice-gates.ensures.value (omega arith) c.loop-done.invariant
