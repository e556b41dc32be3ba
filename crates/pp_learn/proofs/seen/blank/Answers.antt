use Rattle.std.proofs.Common.{◌<◌, arith, length, get_or}
use Rattle.pp_learn.proofs.MetSeen.{left_first, left_next, left_none}
use Rattle.pp_learn.proofs.seen.blank.Goals as goal

pub loop-var-init : goal.loop-var-init
loop-var-init c = left_first c.args.seen.now c.args.met.now c.requires

pub loop-var-preserved : goal.loop-var-preserved
loop-var-preserved c =
    left_next c.loop-var.seen c.args.met.now c.loop-var.var-index c.loop-var-test.true
    (let within : get_or c.args.met.now c.loop-var.var-index 0 < length c.args.seen.now =
    c.requires.in_range c.loop-var.var-index 0 c.loop-var-test.true in omega (arith, within, c.loop-var.auto.seen))
    c.loop-var.invariant

pub returns : goal.returns
returns c = left_none c.loop-var.seen c.args.met.now c.loop-var.var-index c.loop-var-test.false c.loop-var.invariant
