use Rattle.std.proofs.Common.{arith}
use Rattle.pp_parse.proofs.steps.step.Goals as goal

pub returns-in-Ok : goal.returns-in-Ok
returns-in-Ok c = let h = c.moved.ensures in let e = c.in-Ok.ensures in grind arith
