use Rattle.std.proofs.Common.{arith}
use Rattle.pp_parse_items.proofs.items.on_object_title.Goals as goal

pub returns-in_default : goal.returns-in_default
returns-in_default c = λ d s. let h = c.on_object_line.ensures d s in grind arith
