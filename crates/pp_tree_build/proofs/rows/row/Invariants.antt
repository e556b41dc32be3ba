use Rattle.std.proofs.Common.{◌≡◌, map, take}
use Rattle.pp_tree_build.proofs.rows.row.Given as goal

abbrev pub invariant-loop-item : goal.invariant-loop-item
invariant-loop-item g l = l.trees.items ≡ map (λ b. b.now.tree) (take l.item-index l.items)
