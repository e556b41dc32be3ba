use Rattle.std.proofs.Common.{◌∙◌, ap}
use Rattle.std.proofs.lemmas.Result.{IfOk-weaker}
use Rattle.pp_tree.specs.Plain.{matching}
use Rattle.pp_tree.specs.Shown.{tree_of, case_of, case_trees}
use Rattle.pp_tree_build.proofs.Folded.{matching_is}
use Rattle.pp_tree_build.proofs.Heights.{map_map, matching_levels}
use Rattle.pp_tree_build.proofs.exprs.matching.Goals as goal

pub invariant_of-keep : goal.invariant_of-keep
invariant_of-keep c = record {
  is_height =
      matching_levels _ _ _ _ _ _ _ _ _ (matching_is _ _ _) c.in_ok-row.ensures c.args.matched.now.is_height
      c.highest.ensures c.max.ensures c.above-levels.ensures;
}

pub returns : goal.returns
returns c =
    let of_cases = map_map case_of (λ b. b.now.tree) c.args.cases.now c.in_ok-row.field-0.now c.in_ok-row.ensures in
    IfOk-weaker c.keep.result _ _ (λ k same. ap (λ b. tree_of b.tree) same ∙ matching_is _ _ _
    ∙ ap (λ cs. matching c.args.at (tree_of c.args.matched.now.tree) (case_trees cs)) of_cases) c.keep.ensures
