use Rattle.std.proofs.Common.{Some, ap, map, sym, ◌∙◌}
use Rattle.pp_prog.specs.declared.value.Value.TheVariants.{Tree}
use Rattle.pp_closure.proofs.wholes.learn_whole.Goals as goal

pub returns-then-is_whole : goal.returns-then-is_whole
returns-then-is_whole c v holds =
    let made = c.in-Some-Construct in
    let at = sym made.ensures ∙ ap Some made.field-0-is in
    let whole = c.is_whole.ensures v holds c.if-is_whole.true in
    let same = ap (λ fields. Tree made.ctor (map v.values fields)) (sym c.as_slice.ensures) in
    c.unite.ensures v.values (v.does c.args.made _ at ∙ same ∙ sym whole) holds
