use Rattle.std.proofs.Common.{◌∙◌, List, ℕ, get_or, ap}
use Rattle.pp_estimate.specs.Counted.{add_at}
use Rattle.pp_estimate.proofs.Sums.{plus_each_more, plus_each_none}
use Rattle.pp_estimate.proofs.counts.add_each.Goals as goal

pub loop-i-init : goal.loop-i-init
loop-i-init c = plus_each_none c.args.counts.now

pub loop-i-preserved : goal.loop-i-preserved
loop-i-preserved c =
    c.add_at.ensures ∙ ap (λ (l : List ℕ). add_at l c.loop-i.i (get_or c.args.more.now c.loop-i.i 0)) c.loop-i.invariant
    ∙ plus_each_more c.args.counts.now c.args.more.now c.loop-i.i c.loop-i-test.true
