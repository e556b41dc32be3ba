use Rattle.std.proofs.Common.{arith}
use Rattle.pp_parse_state.specs.Shown.{shown}
use Rattle.pp_parse_items.specs.Shown.{parsed_of}
use Rattle.pp_parse_items.proofs.declarations.on_item.Goals as goal

pub returns-in-Mark-CloseBrace : goal.returns-in-Mark-CloseBrace
returns-in-Mark-CloseBrace c = let h =
    c.on_object_closed.ensures (parsed_of c.args.parsed.now) (shown c.args.stack.now) in grind arith

pub returns-in-End : goal.returns-in-End
returns-in-End c = let h = c.on_unit_end.ensures (shown c.args.stack.now) in grind arith

pub returns-in-Word-Object : goal.returns-in-Word-Object
returns-in-Word-Object c = let h = c.on_object_word.ensures (parsed_of c.args.parsed.now) (shown c.args.stack.now) in
    grind arith

pub returns-in_default : goal.returns-in_default
returns-in_default c = let h = c.on_declaration.ensures (parsed_of c.args.parsed.now) in grind arith
