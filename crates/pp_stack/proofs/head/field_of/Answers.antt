use Rattle.std.proofs.Common.{◌∙◌, ap, sym}
use Rattle.pp_prog.specs.declared.value.Value.TheVariants.{outs-Bool, outs-Int}
use Rattle.pp_eval.specs.Meaning.{field, field_in}
use Rattle.pp_store.specs.Values.{value_of}
use Rattle.pp_stack.proofs.Heading.{field_there, no_field}
use Rattle.pp_stack.proofs.head.field_of.Goals as goal

pub returns-in-Int : goal.returns-in-Int
returns-in-Int c =
    ap (λ h. field (value_of c.args.store.now h) c.args.k) c.in-Int.is
    ∙ ap (λ l. field_in l c.args.k) (outs-Int c.in-Int.field-0)

pub returns-in-Bool : goal.returns-in-Bool
returns-in-Bool c =
    ap (λ h. field (value_of c.args.store.now h) c.args.k) c.in-Bool.is
    ∙ ap (λ l. field_in l c.args.k) (outs-Bool c.in-Bool.field-0)

pub returns-in-Some : goal.returns-in-Some
returns-in-Some c =
    field_there c.args.store.now c.args.held c.parts.result.ctor c.parts.result.fields.now c.args.k
    (ap (value_of c.args.store.now) c.in-Tree.is ∙ c.parts.ensures.value) c.in-Some.field.now c.parts.ensures.held
    (sym c.in-Some.ensures)

pub returns-in-None : goal.returns-in-None
returns-in-None c =
    no_field c.args.store.now c.args.held c.parts.result.ctor c.parts.result.fields.now c.args.k
    (ap (value_of c.args.store.now) c.in-Tree.is ∙ c.parts.ensures.value) (sym c.in-None.ensures)
