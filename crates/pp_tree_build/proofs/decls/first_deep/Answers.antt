use Rattle.std.proofs.Common.{◌∙◌, sym}
use Rattle.pp_tree_build.proofs.Deep.{deep_step, or_some, or_none}
use Rattle.pp_tree_build.proofs.decls.first_deep.Goals as goal

pub returns-then-is_some : goal.returns-then-is_some
returns-then-is_some g c =
    sym (c.loop-item.invariant ∙ deep_step (λ d. g.T.Rooted.roots_of d.now.tree) _ _ _ _ c.loop-item-test.true
    c.item-item.is c.item-item.result.now.is_deep
    ∙ or_some _ _ (sym c.is_some.ensures ∙ c.if-is_some.true))

pub loop-item-preserved : goal.loop-item-preserved
loop-item-preserved g c =
    c.loop-item.invariant ∙ deep_step (λ d. g.T.Rooted.roots_of d.now.tree) _ _ _ _ c.loop-item-test.true
    c.item-item.is c.item-item.result.now.is_deep
    ∙ or_none _ _ (sym c.is_some.ensures ∙ c.if-is_some.false)
