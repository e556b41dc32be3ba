use Rattle.std.proofs.Common.{Some, position, sym, ◌∙◌, ap, refl}
use Rattle.std.proofs.lemmas.Slice.Eq.{bytes_eq-Decides}
use Rattle.pp_seam.specs.Entries.{entries_of}
use Rattle.pp_seam.specs.Shelved.{held_in}
use Rattle.pp_seam.proofs.Places.{is_at, stands_at, held_written, kept_written, held_pushed, kept_pushed}
use Rattle.pp_seam.proofs.entries.replace.Goals as goal

pub returns-in-Some-clause-path : goal.returns-in-Some-clause-path
returns-in-Some-clause-path c =
    let path = c.args.path.now in
    let at = stands_at path c.args.entries.now.items c.in-Some.place
    (ap (position (is_at path)) (sym c.deref.ensures.value) ∙ sym c.place_of.ensures ∙ c.in-Some.is) in
    held_written _ _ _ c.index_mut-entry.result.now _ at c.index_mut-entry.ensures.value refl
    ∙ ap Some c.in_ok-bytes.ensures.items

pub returns-in-Some-clause-others : goal.returns-in-Some-clause-others
returns-in-Some-clause-others c p other =
    let path = c.args.path.now in
    let at = stands_at path c.args.entries.now.items c.in-Some.place
    (ap (position (is_at path)) (sym c.deref.ensures.value) ∙ sym c.place_of.ensures ∙ c.in-Some.is) in
    kept_written _ _ _ c.index_mut-entry.result.now _ p at c.index_mut-entry.ensures.value refl other

pub returns-clause-path : goal.returns-clause-path
returns-clause-path c =
    let path = c.args.path.now in
    let none = ap (position (is_at path)) (sym c.deref.ensures.value) ∙ sym c.place_of.ensures ∙ c.in_default.is in
    ap (λ es. held_in (entries_of es) path) c.in_ok-push.ensures.items
    ∙ held_pushed path c.args.entries.now.items record { path = c.in_ok-path.path; bytes = c.in_ok-bytes.bytes } none
    ((bytes_eq-Decides _ _).1 c.in_ok-path.ensures.ok)
    ∙ ap Some c.in_ok-bytes.ensures.items

pub returns-clause-others : goal.returns-clause-others
returns-clause-others c p other =
    ap (λ es. held_in (entries_of es) p) c.in_ok-push.ensures.items
    ∙ kept_pushed c.args.path.now c.args.entries.now.items
    record { path = c.in_ok-path.path; bytes = c.in_ok-bytes.bytes } p c.in_ok-path.ensures.ok other
