use Rattle.pp_clause.proofs.Bounds.{IsBound}
use Rattle.pp_clause.proofs.bound.raised.Given as goal

abbrev pub invariant-loop-lit : goal.invariant-loop-lit
invariant-loop-lit l = IsBound l.bound l.lits l.lit-index l.greatest
