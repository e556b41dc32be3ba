use Rattle.std.proofs.Common.{arith}
use Rattle.pp_parse_items.proofs.declarations.on_declaration.Goals as goal

pub returns-in_default : goal.returns-in_default
returns-in_default c = λ d. let h = c.on_modifiers.ensures d in grind arith

pub returns-in-Word-Def : goal.returns-in-Word-Def
returns-in-Word-Def c = λ d. let h = c.on_def.ensures d in grind arith
