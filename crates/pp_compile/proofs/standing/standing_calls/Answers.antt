use Rattle.std.proofs.Common.{◌∙◌}
use Rattle.pp_compile.proofs.Guessing.{from_zero}
use Rattle.pp_compile.proofs.standing.standing_calls.Goals as goal

pub returns : goal.returns
returns c = c.in_ok-calls.ensures.from ∙ from_zero _
