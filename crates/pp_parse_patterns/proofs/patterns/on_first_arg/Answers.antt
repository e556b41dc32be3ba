use Rattle.std.proofs.Common.{arith}
use Rattle.pp_parse_patterns.proofs.patterns.on_first_arg.Goals as goal

pub returns : goal.returns
returns c = let h = c.on_want_pattern.ensures in grind arith
