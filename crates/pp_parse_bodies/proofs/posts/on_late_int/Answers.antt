use Rattle.std.proofs.Common.{arith}
use Rattle.pp_parse_bodies.proofs.posts.on_late_int.Goals as goal

pub returns : goal.returns
returns c = let h = c.on_int.ensures c.take_name.new.self in grind arith
