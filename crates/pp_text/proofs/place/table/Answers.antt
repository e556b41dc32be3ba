use Rattle.std.proofs.Common.{◌∙◌, rules, arith}
use Rattle.std.proofs.lemmas.List.{length_push}
use Rattle.pp_text.proofs.Tables.{place_bounds, more_table}
use Rattle.pp_text.proofs.place.table.Goals as goal

pub past_bytes-place-requires-clause-line : goal.past_bytes-place-requires-clause-line
past_bytes-place-requires-clause-line c =
    let small = place_bounds _ _ _ _ _ c.loop-chunk.invariant.made in
    omega (arith, small.0, c.in-Some.ensures.steps.1.1, c.loop-chunk.invariant.size)

pub past_bytes-place-requires-clause-column : goal.past_bytes-place-requires-clause-column
past_bytes-place-requires-clause-column c =
    let small = place_bounds _ _ _ _ _ c.loop-chunk.invariant.made in
    omega (arith, small.1, c.in-Some.ensures.steps.1.1, c.loop-chunk.invariant.size)

pub loop-chunk-preserved : goal.loop-chunk-preserved
loop-chunk-preserved c =
    let steps = c.in-Some.ensures.steps in
    let size = c.loop-chunk.invariant.size in
    let one_more = length_push c.loop-chunk.yielded c.in-Some.chunk in
    let made = more_table _ _ _ _ _ _ _ c.loop-chunk.invariant.made steps.1.0 (rw size at steps.1.1) in
    record {
      can_next = search rules;
      finite = tt;
      size = steps.0 ∙ size;
      made = rw (one_more, c.in_ok-push-2.ensures.items, c.past_bytes-place.ensures) made;
    }
