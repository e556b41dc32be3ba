use Rattle.std.proofs.Common.{◌≡◌, min, map, take}
use Rattle.pp_tree.specs.Height.{highest}
use Rattle.pp_tree_build.proofs.rows.highest.Given as goal

abbrev pub invariant-loop-item : goal.invariant-loop-item
invariant-loop-item g l = l.levels ≡ min (highest g.T.Node.height_of (map (λ b. b.now.tree) (take l.item-index
    l.items))) 65
