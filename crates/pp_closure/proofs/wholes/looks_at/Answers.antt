use Rattle.std.proofs.Common.{Some, ap, sym, ◌∙◌}
use Rattle.pp_prog.specs.declared.id.CtorId.{CtorId}
use Rattle.pp_steps.specs.Meaning.{ctor_field}
use Rattle.pp_closure.proofs.wholes.looks_at.Goals as goal

pub returns-then-at_place-place : goal.returns-then-at_place-place
returns-then-at_place-place c v holds is =
    let looks = c.in-Some-CtorField in
    let at = sym looks.ensures ∙ ap Some looks.field-0-is in
    let named : _ → CtorId = λ n. record { 0 = n } in
    v.does c.args.number _ at
    ∙ ap (λ (d : CtorId). ctor_field v.missing d looks.at_place (v.values looks.a)) (ap named c.if-ctor-whole.true)
    ∙ ap (λ i. ctor_field v.missing c.args.whole.ctor i (v.values looks.a)) c.if-at_place-place.true
    ∙ ap (ctor_field v.missing c.args.whole.ctor c.args.place) (c.same.ensures v.values holds is)
