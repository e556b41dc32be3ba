use Rattle.std.proofs.Common.{sym, ◌∙◌, ap, Some}
use Rattle.pp_seam.proofs.Places.{stands_at, held_at, bytes_at_place, unheld, if_none}
use Rattle.pp_seam.proofs.entries.find.Goals as goal

pub returns-in_err-place-clause-none : goal.returns-in_err-place-clause-none
returns-in_err-place-clause-none c =
    if_none _ (unheld c.args.path.now c.args.entries.now (sym c.place_of.ensures ∙ c.in_err-place.was))

pub returns-clause-held : goal.returns-clause-held
returns-clause-held c =
    let at = stands_at c.args.path.now c.args.entries.now c.in_ok-place.place
    (sym c.place_of.ensures ∙ c.in_ok-place.was) in
    held_at _ _ _ c.index-entries-place.result at c.index-entries-place.is
    ∙ ap Some (ap (λ e. e.bytes.items) c.index-entries-place.is ∙ sym c.deref.ensures.value)

pub returns-clause-place : goal.returns-clause-place
returns-clause-place c =
    let at = stands_at c.args.path.now c.args.entries.now c.in_ok-place.place
    (sym c.place_of.ensures ∙ c.in_ok-place.was) in
    bytes_at_place _ _ c.index-entries-place.result at.within c.index-entries-place.is
    ∙ ap (λ e. e.bytes.items) c.index-entries-place.is ∙ sym c.deref.ensures.value
