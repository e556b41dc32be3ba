use Rattle.std.proofs.Common.{◌≡◌, map, take}
use Rattle.pp_tree_build.proofs.decls.decl_row.Given as goal

abbrev pub invariant-loop-item : goal.invariant-loop-item
invariant-loop-item g l = l.trees.items ≡ map (λ c. c.now.tree) (take l.item-index l.items)
