use Rattle.std.proofs.Common.{arith}
use Rattle.pp_parse_patterns.proofs.patterns.on_pattern_name.Goals as goal

pub returns-in_ok-put_pattern-in_default : goal.returns-in_ok-put_pattern-in_default
returns-in_ok-put_pattern-in_default c = let h = c.on_have_pattern.ensures in grind arith
