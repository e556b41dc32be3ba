use Rattle.std.proofs.Common.{arith}
use Rattle.pp_parse_state.specs.Shown.{shown}
use Rattle.pp_parse_items.specs.Shown.{parsed_of}
use Rattle.pp_parse.proofs.steps.on_item_mode.Goals as goal

pub returns-in-AfterItem : goal.returns-in-AfterItem
returns-in-AfterItem c = let h = c.on_after_item.ensures (shown c.args.stack.now) in grind arith

pub returns-in-AfterPathName : goal.returns-in-AfterPathName
returns-in-AfterPathName c = let h = c.on_path_name.ensures (shown c.args.stack.now) in grind arith

pub returns-in-AfterPathDot : goal.returns-in-AfterPathDot
returns-in-AfterPathDot c = let h = c.on_path_dot.ensures (shown c.args.stack.now) in grind arith

pub returns-in-AfterObject : goal.returns-in-AfterObject
returns-in-AfterObject c = let h = c.on_after_object.ensures (shown c.args.stack.now) in grind arith

pub returns-in-AfterAnnotation : goal.returns-in-AfterAnnotation
returns-in-AfterAnnotation c = let h = c.on_annotation.ensures (parsed_of c.args.parsed.now) in grind arith

pub returns-in-AfterAnnotationLine : goal.returns-in-AfterAnnotationLine
returns-in-AfterAnnotationLine c = let h = c.on_declaration.ensures (parsed_of c.args.parsed.now) in grind arith

pub returns-in-AfterCase : goal.returns-in-AfterCase
returns-in-AfterCase c = let h = c.on_after_case.ensures (parsed_of c.args.parsed.now) in grind arith

pub returns-in-AfterModifiers : goal.returns-in-AfterModifiers
returns-in-AfterModifiers c = let h = c.on_modifiers.ensures (parsed_of c.args.parsed.now) in grind arith
