use Rattle.std.proofs.Common.{◌∙◌, ap, map}
use Rattle.std.proofs.lemmas.Result.{IfOk-weaker}
use Rattle.pp_tree.specs.Plain.{apply}
use Rattle.pp_tree.specs.Shown.{tree_of, trees, type_of, type_trees}
use Rattle.pp_tree_build.proofs.Folded.{apply_is}
use Rattle.pp_tree_build.proofs.Heights.{map_map, apply_levels}
use Rattle.pp_tree_build.proofs.exprs.apply.Goals as goal

pub invariant_of-keep : goal.invariant_of-keep
invariant_of-keep c = record {
  is_height =
      apply_levels _ _ _ _ _ _ _ _ _ _ _ (apply_is _ _ _ _) c.in_ok-types.ensures c.in_ok-args.ensures
      c.highest.ensures c.highest-2.ensures c.max.ensures c.above-levels.ensures;
}

pub returns : goal.returns
returns c =
    let of_types = map_map type_of (λ b. b.now.tree) c.args.types.now c.in_ok-types.types.now c.in_ok-types.ensures in
    let of_args = map_map tree_of (λ b. b.now.tree) c.args.args.now c.in_ok-args.args.now c.in_ok-args.ensures in
    IfOk-weaker c.keep.result _ _ (λ k same. ap (λ b. tree_of b.tree) same ∙ apply_is _ _ _ _
    ∙ ap (λ ts. apply c.args.at c.args.name.now (type_trees ts) (trees (map tree_of c.in_ok-args.args.now))) of_types
    ∙ ap (λ es. apply c.args.at c.args.name.now (type_trees (map (λ t. type_of t.now.tree) c.args.types.now)) (trees
    es)) of_args) c.keep.ensures
