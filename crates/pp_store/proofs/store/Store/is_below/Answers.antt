use Rattle.std.proofs.Common.{◌∙◌, refl, ap}
use Rattle.pp_store.specs.Values.{value_of, values_of}
use Rattle.pp_prog.specs.Values.{is_field}
use Rattle.pp_store.proofs.Marks.{value_contained}
use Rattle.pp_store.proofs.store.Store.is_below.Goals as goal

pub returns-then-is_among : goal.returns-then-is_among
returns-then-is_among c = (
  λ _. is_field c.parts.result.ctor (values_of c.args.self.now c.parts.result.fields.now)
      (ap (value_of c.args.self.now) c.in-Tree.is ∙ c.parts.ensures.value)
      (value_contained c.args.self.now c.parts.result.fields.now c.args.a (c.is_among.ensures c.if-is_among.true)),
  λ _. refl,
)
