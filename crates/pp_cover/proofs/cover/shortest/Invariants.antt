use Rattle.std.proofs.Common.{◌<◌, length}
use Rattle.pp_cover.proofs.cover.shortest.Given as goal

abbrev pub invariant-loop-i : goal.invariant-loop-i
invariant-loop-i l = l.least < length l.rows
