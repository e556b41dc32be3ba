use Rattle.pp_tree_build.proofs.Folded.{choice_is}
use Rattle.pp_tree_build.proofs.Heights.{choice_levels}
use Rattle.pp_tree_build.proofs.exprs.choice.Goals as goal

pub invariant_of-keep : goal.invariant_of-keep
invariant_of-keep c = record {
  is_height =
      choice_levels _ _ _ _ _ _ _ _ _ _ _ (choice_is _ _ _ _) c.args.test.now.is_height c.args.yes.now.is_height
      c.args.no.now.is_height c.max.ensures c.max-2.ensures c.above-levels.ensures;
}
