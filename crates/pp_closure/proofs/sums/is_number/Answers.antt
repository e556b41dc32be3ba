use Rattle.std.proofs.Common.{sym, subst, ◌∙◌}
use Rattle.pp_closure.specs.Facts.{HasMaker}
use Rattle.pp_closure.proofs.Totals.{sort_from}
use Rattle.pp_closure.proofs.sums.is_number.Goals as goal

pub returns-in-Some : goal.returns-in-Some
returns-in-Some c v holds h lt =
    let e = sym c.is_number.ensures ∙ h in
    let t = c.known.ensures v.values holds in
    sort_from _ v c.in-Some.maker c.args.number (c.made_of.ensures.within e) lt
    (subst (λ o. HasMaker v.values o (v.values c.args.number)) c.in-Some.is t.maker) (c.made_of.ensures.sort v e)
