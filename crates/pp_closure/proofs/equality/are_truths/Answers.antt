use Rattle.std.proofs.Common.{◌∙◌}
use Rattle.pp_closure.proofs.equality.are_truths.Goals as goal

pub returns-else-is_truth : goal.returns-else-is_truth
returns-else-is_truth c v sorts is = sorts ∙ c.is_truth-else-is_truth.ensures v is
