use Rattle.std.proofs.Common.{◌∙◌, ap}
use Rattle.std.proofs.lemmas.Result.{IfOk-weaker}
use Rattle.pp_tree.specs.Plain.{type_text}
use Rattle.pp_tree.specs.Shown.{type_of, type_trees}
use Rattle.pp_tree_build.proofs.Folded.{type_is}
use Rattle.pp_tree_build.proofs.Heights.{map_map, type_levels}
use Rattle.pp_tree_build.proofs.types.type_text.Goals as goal

pub invariant_of-keep : goal.invariant_of-keep
invariant_of-keep c = record {
  is_height =
      type_levels _ _ _ _ _ _ _ (type_is _ _ _) c.in_ok-args.ensures c.highest.ensures c.above-levels.ensures;
}

pub returns : goal.returns
returns c =
    let of_args = map_map type_of (λ b. b.now.tree) c.args.args.now c.in_ok-args.args.now c.in_ok-args.ensures in
    IfOk-weaker c.keep.result _ _ (λ k same. ap (λ b. type_of b.tree) same ∙ type_is _ _ _
    ∙ ap (λ ts. type_text c.args.at c.args.name.now (type_trees ts)) of_args) c.keep.ensures
