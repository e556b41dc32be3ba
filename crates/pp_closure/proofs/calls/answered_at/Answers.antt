use Rattle.std.proofs.Common.{Some, ap, sym, ◌∙◌}
use Rattle.pp_closure.proofs.Answered.{is_answer}
use Rattle.pp_closure.proofs.calls.answered_at.Goals as goal

pub returns-then-is_answered : goal.returns-then-is_answered
returns-then-is_answered c v holds =
    let at = sym c.in-Some-Answer.ensures ∙ ap Some c.in-Some-Answer.field-0-is in
    let answered = c.is_answered.ensures v holds c.if-is_answered.true in
    is_answer _ (v.values c.args.number) answered.1 (v.does c.args.number _ at answered.0)
