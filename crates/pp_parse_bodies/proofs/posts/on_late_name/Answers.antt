use Rattle.std.proofs.Common.{arith}
use Rattle.pp_parse_bodies.proofs.posts.on_late_name.Goals as goal

pub returns-in_default : goal.returns-in_default
returns-in_default c = let h = c.misplaced_name.ensures c.args.cx.now.text.now c.args.cx.now.token in grind arith
