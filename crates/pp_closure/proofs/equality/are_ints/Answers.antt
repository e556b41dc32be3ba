use Rattle.std.proofs.Common.{◌∙◌}
use Rattle.pp_closure.proofs.equality.are_ints.Goals as goal

pub returns-else-is_int : goal.returns-else-is_int
returns-else-is_int c v sorts is = sorts ∙ c.is_int-else-is_int.ensures v is
