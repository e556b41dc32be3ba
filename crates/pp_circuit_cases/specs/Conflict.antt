-- Conflicts that decisions lead to. (own)
use Rattle.std.specs.Prelude.{take}
use Rattle.pp_trail.specs.Trail.{Trail, lits, IsFalse}
use Rattle.pp_learn.specs.Reached.{AreForced}
use Rattle.pp_circuit_cases.specs.declared.learning.Conflict.{Conflict}

-- the clause is false, and wasn't before the step at `start`, after which each step has a reason
pub record IsConflict (watch : Trail) (c : Conflict) : Type 0 where
  pub is_false : IsFalse watch.clauses (lits watch.steps) c.number
  pub later : ¬ IsFalse watch.clauses (lits (take c.start watch.steps)) c.number
  pub forced : AreForced watch.steps c.start
