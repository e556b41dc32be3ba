use Rattle.std.proofs.Common.{arith}
use Rattle.pp_parse_items.proofs.items.on_path_name.Goals as goal

pub returns-in_default : goal.returns-in_default
returns-in_default c = λ s. let h = c.on_path_end.ensures s in grind arith
