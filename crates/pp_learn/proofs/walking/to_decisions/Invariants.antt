use Rattle.pp_learn.specs.Seen.{AreMet}
use Rattle.pp_learn.specs.Reached.{Reached, AreDecisions}
use Rattle.pp_learn.proofs.walking.to_decisions.Given as goal

abbrev pub invariant-loop-place : goal.invariant-loop-place
invariant-loop-place l = record {
  reached : Reached l.clauses l.trail l.seen l.chain.items;
  decided : AreDecisions l.trail l.seen l.place;
  met : AreMet l.seen l.met.items;
}
