use Rattle.pp_checks.proofs.Settling.{settled_end, settled_start}
use Rattle.pp_checks.proofs.nesting.settle.Goals as goal

pub loop-f-init : goal.loop-f-init
loop-f-init c = settled_start c.args.calls.now c.args.depth c.args.depths.now c.requires

pub returns : goal.returns
returns c =
    settled_end c.args.calls.now c.args.depth c.loop-f.f c.loop-f.depths c.loop-f-test.false c.loop-f.invariant
