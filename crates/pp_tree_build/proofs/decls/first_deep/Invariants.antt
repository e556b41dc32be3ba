use Rattle.std.proofs.Common.{◌≡◌, drop}
use Rattle.std.specs.Prelude.{flat_map}
use Rattle.pp_tree.specs.Roots.{too_high}
use Rattle.pp_tree_build.proofs.decls.first_deep.Given as goal

abbrev pub invariant-loop-item : goal.invariant-loop-item
invariant-loop-item g l = too_high (flat_map (λ c. g.T.Rooted.roots_of c.now.tree) l.items) ≡ too_high (flat_map (λ c.
    g.T.Rooted.roots_of c.now.tree) (drop l.item-index l.items))
