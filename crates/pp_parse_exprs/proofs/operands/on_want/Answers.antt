use Rattle.std.proofs.Common.{arith}
use Rattle.pp_parse_exprs.proofs.operands.on_want.Goals as goal

pub returns-in-Hex : goal.returns-in-Hex
returns-in-Hex c = let h = c.on_number-in-Hex.ensures in grind arith
