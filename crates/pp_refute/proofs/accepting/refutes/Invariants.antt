use Rattle.std.proofs.Common.{[], take}
use Rattle.pp_clause.specs.Log.{AllDerived}
use Rattle.pp_refute.specs.Table.{Agrees}
use Rattle.pp_refute.proofs.accepting.refutes.Given as goal

abbrev pub invariant-loop-place : goal.invariant-loop-place
invariant-loop-place l = AllDerived l.clauses (take l.place l.lemmas) × Agrees l.table []
