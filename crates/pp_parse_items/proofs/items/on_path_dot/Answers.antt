use Rattle.std.proofs.Common.{arith}
use Rattle.pp_parse_items.proofs.items.on_path_dot.Goals as goal

pub returns-in-Hole : goal.returns-in-Hole
returns-in-Hole c = λ s. let h = c.on_import_all.ensures s in grind arith
