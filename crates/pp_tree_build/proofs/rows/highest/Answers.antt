use Rattle.std.proofs.Common.{◌∙◌}
use Rattle.pp_tree_build.proofs.Highest.{highest_turn}
use Rattle.pp_tree_build.proofs.rows.highest.Goals as goal

pub loop-item-preserved : goal.loop-item-preserved
loop-item-preserved g c =
    c.max-levels.ensures ∙ highest_turn _ _ _ _ _ _ _ c.loop-item-test.true c.item-item.is c.loop-item.invariant
    c.item-item.result.now.is_height
