use Rattle.std.proofs.Common.{◌∙◌, sym}
use Rattle.std.proofs.lemmas.Result.{IfOk-weaker}
use Rattle.pp_store.specs.Values.{value_of}
use Rattle.pp_stack.proofs.Heading.{stays, tree_goes_down}
use Rattle.pp_stack.proofs.measure.goes_down.Goals as goal

pub returns-in-Tree-Tree : goal.returns-in-Tree-Tree
returns-in-Tree-Tree c =
    IfOk-weaker c.is_below.result _ _
    (tree_goes_down c.args.store.now (value_of c.args.store.now c.args.new) (value_of c.args.store.now c.args.old)
    c.look_at.result c.look_at-2.result c.look_at.ensures c.look_at-2.ensures c.in-Tree-Tree.field-0-0
    c.in-Tree-Tree.field-0-1 c.in-Tree-Tree.is-0 c.in-Tree-Tree.is-1)
    c.is_below.ensures

pub returns-in_default : goal.returns-in_default
returns-in_default c =
    stays c.args.store.now (value_of c.args.store.now c.args.new) (value_of c.args.store.now c.args.old)
    c.look_at.result c.look_at-2.result c.look_at.ensures c.look_at-2.ensures
    (λ a b e f. c.in_default.not-Int-1 b f) (λ p q e f. let o = sym c.in_default.is-0 ∙ e in cc)

pub returns-in_default-2 : goal.returns-in_default-2
returns-in_default-2 c =
    stays c.args.store.now (value_of c.args.store.now c.args.new) (value_of c.args.store.now c.args.old)
    c.look_at.result c.look_at-2.result c.look_at.ensures c.look_at-2.ensures
    (λ a b e f. let o = sym c.in_default.is-0 ∙ e in cc) (λ p q e f. c.in_default.not-Tree-1 q f)

pub returns-in_default-3 : goal.returns-in_default-3
returns-in_default-3 c =
    stays c.args.store.now (value_of c.args.store.now c.args.new) (value_of c.args.store.now c.args.old)
    c.look_at.result c.look_at-2.result c.look_at.ensures c.look_at-2.ensures
    (λ a b e f. let o = sym c.in_default.is-0 ∙ e in cc) (λ p q e f. let o = sym c.in_default.is-0 ∙ e in cc)
