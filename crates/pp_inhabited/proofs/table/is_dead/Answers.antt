use Rattle.std.proofs.Common.{◌∙◌}
use Rattle.pp_inhabited.proofs.Digits.{dead_turn}
use Rattle.pp_inhabited.proofs.table.is_dead.Goals as goal

pub loop-preserved : goal.loop-preserved
loop-preserved c = c.loop.invariant ∙ dead_turn c.loop.rest c.args.param c.loop.counter c.loop-test.true
