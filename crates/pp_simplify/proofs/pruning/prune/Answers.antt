use Rattle.std.proofs.Common.{length, arith, ap, subst, ◌∙◌}
use Rattle.pp_simplify.specs.Marks.{is_marked}
use Rattle.pp_simplify.specs.Pruned.{AreNeeded}
use Rattle.pp_simplify.proofs.Marking.{mark_read}
use Rattle.pp_simplify.proofs.Replacing.{keep_turn, pruned_all, pruned_to_length, replace_turn}
use Rattle.pp_simplify.proofs.pruning.prune.Goals as goal
use Rattle.pp_simplify.proofs.pruning.prune.Goals.{then-not-index, else-not-index}

pub set-requires : goal.set-requires
set-requires c =
    let marks = c.in_ok-marks.marks.items in
    let many = ap length c.loop-number.invariant
    ∙ pruned_to_length (is_marked marks) c.loop-number.number 0 c.args.steps.now in
    let len = c.in_ok-marks.ensures.len in
    let same = ap length c.as_slice.ensures in
    omega arith

pub loop-number-preserved : goal.loop-number-preserved
loop-number-preserved c =
    let marks = c.in_ok-marks.marks.items in
    let len = c.in_ok-marks.ensures.len in
    let same = ap length c.as_slice.ensures in
    let read = mark_read marks c.loop-number.number _ (omega arith) c.index.ensures in
    elim c.if-not-index.branch [
      | then-not-index w ↦
          w.steps-is ∙ replace_turn (is_marked marks) c.loop-number.number _ c.loop-number.steps _ c.args.steps.now
          (omega arith) (omega arith) (read ∙ w.if-not-index.true) c.loop-number.invariant w.set.ensures
      | else-not-index w ↦
          w.steps-is ∙ keep_turn (is_marked marks) c.loop-number.number _ c.loop-number.steps c.args.steps.now
          (omega arith) (omega arith) (read ∙ w.if-not-index.false) c.loop-number.invariant
    ]

pub returns : goal.returns
returns c =
    let marks = c.in_ok-marks.marks.items in
    let len = c.in_ok-marks.ensures.len in
    let same = ap length c.as_slice.ensures in
    record {
      marks = marks;
      needed = subst (λ ss. AreNeeded c.args.first c.args.asked ss marks) c.as_slice.ensures c.in_ok-marks.ensures;
      steps = c.loop-number.invariant
          ∙ pruned_all (is_marked marks) c.loop-number.number c.args.steps.now (omega arith);
    }
