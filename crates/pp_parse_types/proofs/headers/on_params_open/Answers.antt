use Rattle.std.proofs.Common.{arith}
use Rattle.pp_parse_types.proofs.headers.on_params_open.Goals as goal

pub returns-in_default : goal.returns-in_default
returns-in_default c = let h = c.on_want_param.ensures in grind arith
