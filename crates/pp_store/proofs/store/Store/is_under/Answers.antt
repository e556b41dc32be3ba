use Rattle.std.proofs.Common.{◌∙◌, ◌≡◌, true, false, refl, sym}
use Rattle.pp_store.specs.Values.{value_of}
use Rattle.pp_store.proofs.Marks.{next_found, next_looked_at}
use Rattle.pp_store.proofs.store.Store.is_under.Goals as goal

pub returns-then-branch : goal.returns-then-branch
returns-then-branch c = (
  λ _. next_found c.args.self.now (value_of c.args.self.now c.args.a) c.args.top c.loop-left.marks.items
      c.loop-left.left c.loop-left.invariant c.loop-left-test.true c.index.result.now c.index.ensures c.if-index.true
      c.parts.result.ctor c.parts.result.fields.now c.parts.ensures.value
      (c.in_ok-is_one_of.ensures.0 c.if-branch.true),
  λ _. refl,
)

pub loop-left-preserved-then-index : goal.loop-left-preserved-then-index
loop-left-preserved-then-index c =
    next_looked_at c.args.self.now (value_of c.args.self.now c.args.a) c.args.top c.loop-left.marks.items
    c.loop-left.left c.loop-left.invariant c.loop-left-test.true c.index.result.now c.index.ensures c.if-index.true
    c.parts.result.ctor c.parts.result.fields.now c.parts.ensures.value
    (λ has. let no_field : false ≡ true = sym c.if-branch.false ∙ c.in_ok-is_one_of.ensures.1 has in cc)
    c.parts.ensures.earlier c.deref_mut.result.now c.mark.new.marks c.deref_mut.ensures.value c.mark.ensures
    c.loop-left.marks.len c.loop-left.marks.ok.0
