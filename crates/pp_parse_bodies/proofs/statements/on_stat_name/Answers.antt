use Rattle.std.proofs.Common.{arith}
use Rattle.pp_parse_bodies.proofs.statements.on_stat_name.Goals as goal

pub returns-in_default : goal.returns-in_default
returns-in_default c = let h = c.on_operand_name.ensures in grind arith
