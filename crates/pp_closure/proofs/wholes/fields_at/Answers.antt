use Rattle.std.proofs.Common.{Some, ap, map, sym, ◌∙◌}
use Rattle.pp_prog.specs.declared.value.Value.TheVariants.{Tree}
use Rattle.pp_closure.proofs.wholes.fields_at.Goals as goal

pub returns-in-Some-Construct : goal.returns-in-Some-Construct
returns-in-Some-Construct c v =
    let at = sym c.in-Some-Construct.ensures ∙ ap Some c.in-Some-Construct.field-0-is in
    let ctor = c.in-Some-Construct.field-0-0 in
    (ctor, v.does c.args.number _ at ∙ ap (λ fields. Tree ctor (map v.values fields)) (sym c.as_slice.ensures))
