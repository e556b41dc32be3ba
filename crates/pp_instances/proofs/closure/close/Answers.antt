use Rattle.std.proofs.Common.{◌<◌, length, arith, ◌∙◌}
use Rattle.pp_instances.proofs.Grown.{stage_turn, stage_bursts, stage_end, why_not, got}
use Rattle.pp_instances.proofs.closure.close.Goals as goal

pub returns-in-Err-clause-closed : goal.returns-in-Err-clause-closed
returns-in-Err-clause-closed c = λ seeds s.
    let ms = c.loop-next.members in
    let m = c.in_ok-member.member in
    let lt : c.loop-next.next < length ms = omega (arith, c.loop-next-test.true, c.len.ensures.value) in
    let is = c.in_ok-member.ensures ∙ got ms c.loop-next.next c.at.result.now c.at.ensures m in
    why_not (stage_bursts c.args.typed.now seeds c.loop-next.next ms m (c.loop-next.invariant.stage seeds s) lt is)
    c.in-Err.e c.in-Err.ensures.gains

pub loop-next-preserved : goal.loop-next-preserved
loop-next-preserved c =
    let ms = c.loop-next.members in
    let m = c.in_ok-member.member in
    let lt : c.loop-next.next < length ms = omega (arith, c.loop-next-test.true, c.len.ensures.value) in
    let is = c.in_ok-member.ensures ∙ got ms c.loop-next.next c.at.result.now c.at.ensures m in
    record {
      few = c.in-Ok.ensures.few;
      once = c.in-Ok.ensures.gains.once;
      stage = λ seeds s. stage_turn c.args.typed.now seeds c.loop-next.next ms c.include_uses.new.members m
          (c.loop-next.invariant.stage seeds s) lt is c.in-Ok.ensures.gains;
    }

pub returns-clause-closed : goal.returns-clause-closed
returns-clause-closed c = λ seeds s.
    stage_end c.args.typed.now seeds c.loop-next.next c.loop-next.members (c.loop-next.invariant.stage seeds s)
    (omega (arith, c.loop-next-test.false, c.len.ensures.value))
