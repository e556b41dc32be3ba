use Rattle.std.proofs.Common.{sym}
use Rattle.pp_tokens.specs.Spans.{IsSpan}
use Rattle.pp_parse.proofs.Runs.{unused_holds}
use Rattle.pp_parse.proofs.reading.answer.Goals as goal

pub range-requires-clause-start_le_end : goal.range-requires-clause-start_le_end
range-requires-clause-start_le_end c =
    (unused_holds (IsSpan c.args.text.now) c.args.tokens.now c.in-Some.t c.requires.whole_characters
    (sym c.in-Some.ensures)).forward

pub range-requires-clause-start_boundary : goal.range-requires-clause-start_boundary
range-requires-clause-start_boundary c = λ _.
    (unused_holds (IsSpan c.args.text.now) c.args.tokens.now c.in-Some.t c.requires.whole_characters
    (sym c.in-Some.ensures)).from_boundary

pub range-requires-clause-end_boundary : goal.range-requires-clause-end_boundary
range-requires-clause-end_boundary c =
    (unused_holds (IsSpan c.args.text.now) c.args.tokens.now c.in-Some.t c.requires.whole_characters
    (sym c.in-Some.ensures)).to_boundary
