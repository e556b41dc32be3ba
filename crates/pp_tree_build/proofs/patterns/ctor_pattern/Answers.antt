use Rattle.std.proofs.Common.{◌∙◌, ap, option_map}
use Rattle.std.proofs.lemmas.Result.{IfOk-weaker}
use Rattle.pp_tree.specs.Plain.{ctor_pattern}
use Rattle.pp_tree.specs.Shown.{pattern_of, pattern_trees}
use Rattle.pp_tree_build.proofs.Folded.{ctor_is}
use Rattle.pp_tree_build.proofs.Heights.{map_map, ctor_levels}
use Rattle.pp_tree_build.proofs.patterns.ctor_pattern.Goals as goal

pub invariant_of-keep : goal.invariant_of-keep
invariant_of-keep c = record {
  is_height =
      ctor_levels _ _ _ _ _ _ _ _ (ctor_is _ _ _ _) c.in_ok-row.ensures c.highest.ensures c.above-levels.ensures;
}

pub returns : goal.returns
returns c =
    let of_fields = map_map pattern_of (λ b. b.now.tree) c.args.fields.now c.in_ok-row.field-0.now c.in_ok-row.ensures in
    IfOk-weaker c.keep.result _ _ (λ k same. ap (λ b. pattern_of b.tree) same ∙ ctor_is _ _ _ _
    ∙ ap (λ ps. ctor_pattern c.args.at (option_map (λ n. n.now) c.args.name) c.args.ctor.now (pattern_trees ps))
    of_fields) c.keep.ensures
