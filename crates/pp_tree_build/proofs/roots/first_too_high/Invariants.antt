use Rattle.std.proofs.Common.{◌≡◌, map, drop}
use Rattle.pp_tree.specs.Roots.{too_high}
use Rattle.pp_tree_build.proofs.roots.first_too_high.Given as goal

abbrev pub invariant-loop-item : goal.invariant-loop-item
invariant-loop-item g l = too_high (map (λ b. g.T.Placed.root_of b.now.tree) l.items) ≡ too_high (map (λ b.
    g.T.Placed.root_of b.now.tree) (drop l.item-index l.items))
