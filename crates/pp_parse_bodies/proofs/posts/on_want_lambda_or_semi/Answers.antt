use Rattle.std.proofs.Common.{arith}
use Rattle.pp_parse_bodies.proofs.posts.on_want_lambda_or_semi.Goals as goal

pub returns-in_default : goal.returns-in_default
returns-in_default c = let h = c.on_want_lambda.ensures in grind arith
