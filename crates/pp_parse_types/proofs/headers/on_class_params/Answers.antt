use Rattle.std.proofs.Common.{arith}
use Rattle.pp_parse_types.proofs.headers.on_class_params.Goals as goal

pub returns-in_default : goal.returns-in_default
returns-in_default c = let h = c.class_ends.ensures in grind arith
