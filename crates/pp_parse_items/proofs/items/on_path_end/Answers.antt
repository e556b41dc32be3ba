use Rattle.std.proofs.Common.{arith}
use Rattle.pp_parse_items.proofs.items.on_path_end.Goals as goal

pub returns : goal.returns
returns c = λ s. let h = c.on_after_item.ensures s in grind arith
