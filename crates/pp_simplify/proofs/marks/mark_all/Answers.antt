use Rattle.std.proofs.Common.{sym, subst}
use Rattle.std.proofs.lemmas.List.{take_more}
use Rattle.pp_simplify.specs.Marks.{Marks}
use Rattle.pp_simplify.proofs.Marking.{marks_more}
use Rattle.pp_simplify.proofs.Cones.{below_index}
use Rattle.pp_simplify.proofs.marks.mark_all.Goals as goal

pub mark-requires : goal.mark-requires
mark-requires c =
    below_index _ _ _ _ c.requires c.loop-number-test.true c.loop-number.invariant.len

pub loop-number-preserved : goal.loop-number-preserved
loop-number-preserved c =
    subst (Marks _ _) (sym (take_more _ _ _ c.loop-number-test.true))
    (marks_more _ _ _ _ _ c.loop-number.invariant c.mark.ensures)
