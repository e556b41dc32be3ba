use Rattle.std.proofs.Common.{arith}
use Rattle.pp_parse_items.specs.Shown.{parsed_of}
use Rattle.pp_parse_items.proofs.items.on_after_item.Goals as goal

pub returns-in-Mark-CloseBrace : goal.returns-in-Mark-CloseBrace
returns-in-Mark-CloseBrace c = λ s. let h = c.on_object_closed.ensures (parsed_of c.args.parsed.now) s in grind arith

pub returns-in-End : goal.returns-in-End
returns-in-End c = λ s. let h = c.on_unit_end.ensures s in grind arith
