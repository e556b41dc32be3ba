use Rattle.std.proofs.Common.{[], sym, ap, ◌∙◌, subst}
use Rattle.pp_declared.specs.Shown.{units_of}
use Rattle.pp_front.proofs.Refused.{on_line}
use Rattle.pp_front.proofs.Spelled.{read_more, refused_next}
use Rattle.pp_front.specs.Programs.{SpellUnits, no_sources}
use Rattle.pp_front.proofs.sources.read_all.Goals as goal

pub loop-bytes-init : goal.loop-bytes-init
loop-bytes-init c = (c.requires.none.0, subst (λ us. SpellUnits [] (units_of us)) (sym c.requires.none.1) no_sources)

pub returns-in-Err-clause-refused : goal.returns-in-Err-clause-refused
returns-in-Err-clause-refused c =
    let inv = c.loop-bytes.invariant in
    on_line c.in-Err.refusal c.in-Err.ensures.refused
    (λ line bad. refused_next c.args.sources.now c.loop-bytes.bytes-index c.bytes-item.result c.deref.result.now line
    c.loop-bytes.texts.items c.loop-bytes-test.true (c.deref.ensures.value ∙ ap (λ v. v.items) c.bytes-item.is) inv.0
    inv.1 bad)

pub loop-bytes-preserved : goal.loop-bytes-preserved
loop-bytes-preserved c =
    let inv = c.loop-bytes.invariant in
    read_more c.args.sources.now c.loop-bytes.bytes-index c.bytes-item.result c.deref.result.now
    c.loop-bytes-test.true (c.deref.ensures.value ∙ ap (λ v. v.items) c.bytes-item.is) inv.0 inv.1
    c.in-Ok.ensures.text c.in-Ok.ensures.unit
