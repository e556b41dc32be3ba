use Rattle.std.proofs.Common.{◌*◌, ◌-◌, ◌/◌, drop, sym, subst, arith}
use Rattle.std.specs.Str.{IsCharBoundary}
use Rattle.std.proofs.lemmas.List.{length-take}
use Rattle.std.proofs.lemmas.Str.{IsUtf8-string_bytes}
use Rattle.pp_text.proofs.Places.{table_bounds, place_from_table}
use Rattle.pp_text.proofs.text.Text.place.Goals as goal

pub past_bytes-requires-clause-line : goal.past_bytes-requires-clause-line
past_bytes-requires-clause-line c =
    let start = 64 * (c.args.offset / 64) in
    let here = subst (λ t. IsCharBoundary t c.args.offset) (sym c.self.view_is) c.requires in
    let small = table_bounds _ _ c.args.offset _ c.self.invariant.places here.0 c.index.ensures in
    let short = length-take (c.args.offset - start) (drop start c.as_bytes.result.now) in
    omega (arith, small.0, short, c.self.invariant.short)

pub past_bytes-requires-clause-column : goal.past_bytes-requires-clause-column
past_bytes-requires-clause-column c =
    let start = 64 * (c.args.offset / 64) in
    let here = subst (λ t. IsCharBoundary t c.args.offset) (sym c.self.view_is) c.requires in
    let small = table_bounds _ _ c.args.offset _ c.self.invariant.places here.0 c.index.ensures in
    let short = length-take (c.args.offset - start) (drop start c.as_bytes.result.now) in
    omega (arith, small.1, short, c.self.invariant.short)

pub returns : goal.returns
returns c =
    let utf8 = IsUtf8-string_bytes c.self.inside.text in
    let here = subst (λ t. IsCharBoundary t c.args.offset) (sym c.self.view_is) c.requires in
    let found = place_from_table _ _ c.args.offset _ utf8 here c.self.invariant.places c.index.ensures in
    rw (c.past_bytes.ensures, c.as_bytes.ensures.value, ← c.self.view_is) found
