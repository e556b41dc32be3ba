use Rattle.std.proofs.Common.{arith, ◌∙◌, sym}
use Rattle.pp_tokens.proofs.BlockLen.{turn, passes, opens, closes, stays}
use Rattle.pp_tokens.proofs.Slices.{split_here}
use Rattle.pp_tokens.proofs.comments.block_len.Goals as goal
use Rattle.pp_tokens.proofs.comments.block_len.Goals.{then-passed, else-passed+then-opens}
use Rattle.pp_tokens.proofs.comments.block_len.Goals.{else-passed+else-opens+then-closes+else-depth-eq1}
use Rattle.pp_tokens.proofs.comments.block_len.Goals.{else-passed+else-opens+else-closes}

pub loop-i-preserved : goal.loop-i-preserved
loop-i-preserved c =
    let i = c.loop-i.i in
    let x = c.index-cs-i.result in
    let split = split_here c.args.cs.now i _ c.loop-i-test.true c.index-cs-i.is in
    let done = turn c.args.cs.now _ i c.loop-i.depth _ split c.loop-i.passed c.if-passed.passed c.if-passed.depth _
    c.loop-i.invariant.so_far in
    elim c.if-passed.branch [
      | then-passed w ↦ record {
        so_far = done (passes x _ _ _ _ _ w.if-passed.true w.depth-is w.passed-is);
        some =
            omega arith;
        small = omega arith;
      }
      | else-passed+then-opens w ↦
          record {
            so_far = done (opens x _ _ _ _ _ w.if-passed.false w.depth-is w.passed-is
                (sym c.begins-opens.ensures ∙ w.if-opens.true));
            some = omega arith;
            small = omega arith;
          }
      | else-passed+else-opens+then-closes+else-depth-eq1 w ↦ record {
        so_far = done (closes x _ _ _ _ _ w.if-passed.false w.depth-is w.passed-is
            (sym c.begins-opens.ensures ∙ w.if-opens.false) (sym c.begins-closes.ensures ∙ w.if-closes.true)
            w.if-depth-eq1.false);
        some = omega arith;
        small = omega arith;
      }
      | else-passed+else-opens+else-closes w ↦ record {
        so_far = done (stays x _ _ _ _ _ w.if-passed.false w.depth-is w.passed-is
            (sym c.begins-opens.ensures ∙ w.if-opens.false) (sym c.begins-closes.ensures ∙ w.if-closes.false));
        some = omega arith;
        small = omega arith;
      }
    ]
