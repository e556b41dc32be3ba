use Rattle.pp_closure.proofs.Equals.{false_value}
use Rattle.pp_closure.proofs.equality.is_false.Goals as goal

pub returns-then-is_truth : goal.returns-then-is_truth
returns-then-is_truth c v within holds is =
    false_value _ v c.args.number (c.is_truth.ensures v c.if-is_truth.true) within (c.is.ensures v.values holds is)
