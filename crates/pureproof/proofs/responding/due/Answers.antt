use Rattle.std.proofs.Common.{length, Err, refl, sym, ap, ◌∙◌, subst, arith}
use Rattle.std.proofs.lemmas.List.{length-map}
use Rattle.pp_modes.proofs.Asked.{if_ok}
use Rattle.pp_words.specs.Told.{line_told, texts}
use Rattle.pp_modes.proofs.Ranges.{line_fits}
use Rattle.pureproof.proofs.Held.{asks_nothing}
use Rattle.pureproof.specs.Dues.{IsDue, no_line}
use Rattle.pureproof.specs.Fetched.{told}
use Rattle.pureproof.proofs.responding.due.Goals as goal

pub due_of_files-requires-clause-range : goal.due_of_files-requires-clause-range
due_of_files-requires-clause-range g c = (line_fits (texts c.args.words.now) (line_told c.in-Ok.line)
    c.in-Ok.ensures.read).range

pub due_of_files-requires-clause-few : goal.due_of_files-requires-clause-few
due_of_files-requires-clause-few g c =
    let few = (line_fits (texts c.args.words.now) (line_told c.in-Ok.line) c.in-Ok.ensures.read).few in
    let same = ap length c.deref.ensures.value in
    let shown = length-map c.in-Ok.line.files.items (λ word. word.now) in
    omega arith

pub returns-in-Err-Refused-clause-due : goal.returns-in-Err-Refused-clause-due
returns-in-Err-Refused-clause-due g c =
    if_ok c.no_line.result c.no_line.ensures
    (λ r is. subst (IsDue (texts c.args.words.now) (told g.S.Shelf.held g.S.Shelf.asked g.S.Shelf.failed
    g.S.Shelf.seen c.args.shelf.now
    c.args.shelf.now))
    (sym is) (no_line (c.read.ensures.refused (c.in-Err-Refused.is ∙ ap Err c.in-Err-Refused.field-0-is))
    (asks_nothing (told g.S.Shelf.held g.S.Shelf.asked g.S.Shelf.failed g.S.Shelf.seen c.args.shelf.now
    c.args.shelf.now) refl refl)))
