use Rattle.std.proofs.Common.{take}
use Rattle.pp_clause.proofs.Climbing.{Climbed}
use Rattle.pp_clause.proofs.clause.is_ascending.Given as goal

abbrev pub invariant-loop-lit : goal.invariant-loop-lit
invariant-loop-lit l = Climbed (take l.lit-index l.lits) l.last
