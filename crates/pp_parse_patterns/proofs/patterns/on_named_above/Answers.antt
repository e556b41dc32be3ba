use Rattle.std.proofs.Common.{arith}
use Rattle.pp_parse_patterns.proofs.patterns.on_named_above.Goals as goal

pub returns-in-PatternRound : goal.returns-in-PatternRound
returns-in-PatternRound c = let h = c.on_pattern_round.ensures c.args.stack.now in grind arith
