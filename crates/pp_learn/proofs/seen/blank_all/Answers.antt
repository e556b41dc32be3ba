use Rattle.std.proofs.Common.{arith}
use Rattle.pp_learn.proofs.MetSeen.{gone_none, gone_more, gone_all}
use Rattle.pp_learn.proofs.seen.blank_all.Goals as goal

pub loop-var-init : goal.loop-var-init
loop-var-init c = record { end = omega arith; gone = gone_none c.args.seen.now }

pub loop-var-preserved : goal.loop-var-preserved
loop-var-preserved c = record {
  end = c.loop-var.invariant.end;
  gone = gone_more c.loop-var.seen c.loop-var.var (omega (arith, c.loop-var.invariant.end, c.loop-var.auto.seen))
      c.loop-var.invariant.gone;
}

pub returns : goal.returns
returns c = gone_all c.loop-var.seen c.loop-var.var (omega (arith, c.loop-var.invariant.end, c.loop-var.auto.seen))
    c.loop-var.invariant.gone
