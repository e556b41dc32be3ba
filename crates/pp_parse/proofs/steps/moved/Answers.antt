use Rattle.std.proofs.Common.{arith}
use Rattle.pp_parse_state.specs.Shown.{shown}
use Rattle.pp_parse.proofs.steps.moved.Goals as goal

pub returns-in_ok-declare-in-Ends : goal.returns-in_ok-declare-in-Ends
returns-in_ok-declare-in-Ends c = let h = c.on_after_item.ensures (shown c.take_decl-decl.new.self) in grind arith
