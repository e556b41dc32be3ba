use Rattle.pp_tree.specs.Roots.{param_root}
use Rattle.pp_tree.specs.Shown.{param_of, type_of}
use Rattle.pp_tree_build.proofs.Deep.{or_roots, high_map, high_written}
use Rattle.pp_tree_build.proofs.decls.class_deep.Goals as goal

pub returns : goal.returns
returns c =
    (or_roots _ (high_map param_root (λ b. param_of b.now.tree) c.args.parts.now.fields.now _ c.first_too_high.ensures)
    (high_written (λ b. type_of b.now.tree) c.args.parts.now.parent _ c.too_high_if_any.ensures) c.or.ensures).is
