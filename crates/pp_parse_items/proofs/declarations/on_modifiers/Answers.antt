use Rattle.std.proofs.Common.{arith}
use Rattle.pp_parse_items.proofs.declarations.on_modifiers.Goals as goal

pub returns-in_default : goal.returns-in_default
returns-in_default c = λ d. let h = c.on_class_word.ensures d in grind arith
