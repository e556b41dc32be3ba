use Rattle.std.proofs.Common.{take, All}
use Rattle.pp_clause.specs.Bound.{IsUpTo}
use Rattle.pp_refute.proofs.bound.table_len.Given as goal

abbrev pub invariant-loop-lemma : goal.invariant-loop-lemma
invariant-loop-lemma l =
    All (IsUpTo l.greatest) l.clauses × All (λ m. IsUpTo l.greatest m.clause) (take l.lemma-index l.lemmas)
