use Rattle.std.proofs.Common.{Some, ap, sym, ◌∙◌}
use Rattle.pp_closure.proofs.calls.is_answered.Goals as goal

pub returns-in-Some-HasAnswer : goal.returns-in-Some-HasAnswer
returns-in-Some-HasAnswer c v holds is =
    let at = sym c.in-Some-HasAnswer.ensures ∙ ap Some c.in-Some-HasAnswer.field-0-is in
    (c.is_had.ensures.reached v.values holds is, c.is_had.ensures.has v.missing v.values holds is (v.does _ _ at))
