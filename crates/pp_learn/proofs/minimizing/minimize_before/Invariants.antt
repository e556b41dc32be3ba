use Rattle.pp_learn.specs.Seen.{AreMet, KeepsFrom}
use Rattle.pp_learn.specs.Conflict.{GoesOnFrom}
use Rattle.pp_learn.specs.Reached.{Reached}
use Rattle.pp_learn.proofs.minimizing.minimize_before.Given as goal

abbrev pub invariant-loop-at : goal.invariant-loop-at
invariant-loop-at l = record {
  reached : Reached l.clauses l.trail l.seen l.chain.items;
  keeps : KeepsFrom l.trail l.end l.initial.seen l.seen;
  met : AreMet l.seen l.met.items;
  chain : GoesOnFrom l.initial.chain.items l.chain.items;
}
