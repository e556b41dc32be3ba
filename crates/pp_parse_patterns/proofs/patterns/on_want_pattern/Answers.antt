use Rattle.std.proofs.Common.{arith}
use Rattle.pp_parse_patterns.proofs.patterns.on_want_pattern.Goals as goal

pub returns-in-Hex : goal.returns-in-Hex
returns-in-Hex c = let h = c.on_int_pattern-in-Hex.ensures in grind arith
