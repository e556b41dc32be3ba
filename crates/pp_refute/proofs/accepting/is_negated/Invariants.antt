use Rattle.std.proofs.Common.{take}
use Rattle.pp_refute.proofs.Negating.{Crossed}
use Rattle.pp_refute.proofs.accepting.is_negated.Given as goal

abbrev pub invariant-loop-lit : goal.invariant-loop-lit
invariant-loop-lit l = Crossed l.table l.clause (take l.lit-index l.assumptions)
