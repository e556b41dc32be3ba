use Rattle.std.proofs.Common.{length}
use Rattle.pp_prog.specs.Calls.{call_table}
use Rattle.pp_checks.proofs.Cones.{one_rank}
use Rattle.pp_checks.proofs.laws.share_ranks.Goals as goal

pub returns : goal.returns
returns c functions f g n m = one_rank (call_table functions) (length functions) f g n m
