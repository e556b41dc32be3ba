use Rattle.std.proofs.Common.{take}
use Rattle.pp_clause.proofs.Merging.{Merged}
use Rattle.pp_clause.proofs.clause.merged.Given as goal

abbrev pub invariant-loop-lit : goal.invariant-loop-lit
invariant-loop-lit l = Merged (take l.lit-index l.sorted) l.lits.items l.last
