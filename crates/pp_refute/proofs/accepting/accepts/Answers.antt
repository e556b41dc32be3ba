use Rattle.pp_clause.proofs.Soundness.{refuted_law}
use Rattle.pp_refute.proofs.accepting.accepts.Goals as goal

pub returns-clause-sound : goal.returns-clause-sound
returns-clause-sound c =
    λ yes. refuted_law c.args.clauses.now c.args.assumptions.now _ c.table_len.ensures.order (c.refutes.ensures.yes yes)
