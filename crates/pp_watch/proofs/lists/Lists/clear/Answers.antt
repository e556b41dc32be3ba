use Rattle.std.proofs.Common.{arith, ◌∙◌, ap, length, sym, get_or, []}
use Rattle.std.proofs.lemmas.List.{with_items_is}
use Rattle.pp_trail.specs.Marks.{code}
use Rattle.pp_watch.proofs.Rows.{rows, cleared_none, cleared_more, cleared_all}
use Rattle.pp_watch.proofs.lists.Lists.clear.Goals as goal

pub loop-list-init : goal.loop-list-init
loop-list-init c = cleared_none c.deref_mut-list-items.result.now

pub loop-list-preserved : goal.loop-list-preserved
loop-list-preserved c = cleared_more c.deref_mut-list-items.result.now c.loop-list.list-items
    c.loop-list.list-index c.clear.new.self c.loop-list.invariant
    (omega (arith, c.loop-list-test.true, c.loop-list.auto.list-items)) c.clear.ensures.items

pub returns-clause-len : goal.returns-clause-len
returns-clause-len c = ap (λ vs. length (rows vs))
    (with_items_is c.self.inside.items c.loop-list.list-items
    (c.loop-list.auto.list-items ∙ ap length c.deref_mut-list-items.ensures.value ∙ sym c.self.inside.items.ok.0))
    ∙ c.loop-list.invariant.len ∙ ap (λ vs. length (rows vs)) c.deref_mut-list-items.ensures.value
    ∙ ap length c.self.view_is

pub returns-clause-none : goal.returns-clause-none
returns-clause-none c = λ l. ap (λ vs. get_or (rows vs) (code l) [])
    (with_items_is c.self.inside.items c.loop-list.list-items
    (c.loop-list.auto.list-items ∙ ap length c.deref_mut-list-items.ensures.value ∙ sym c.self.inside.items.ok.0))
    ∙ cleared_all c.deref_mut-list-items.result.now c.loop-list.list-items c.loop-list.list-index
    (code l) c.loop-list.invariant (omega (arith, c.loop-list-test.false, c.loop-list.auto.list-items))
