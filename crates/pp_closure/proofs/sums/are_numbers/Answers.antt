use Rattle.std.proofs.Common.{◌∙◌}
use Rattle.pp_closure.proofs.sums.are_numbers.Goals as goal

pub returns-then-is_number : goal.returns-then-is_number
returns-then-is_number c v e la lb holds h = c.is_number.ensures v holds c.if-is_number.true la

pub returns-else-is_number : goal.returns-else-is_number
returns-else-is_number c v e la lb holds h = e ∙ c.is_number-else-is_number.ensures v holds h lb
