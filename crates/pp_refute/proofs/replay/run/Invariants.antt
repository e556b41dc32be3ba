use Rattle.pp_refute.specs.Checking.{clauses_before}
use Rattle.pp_refute.proofs.Running.{Reaching}
use Rattle.pp_refute.proofs.replay.run.Given as goal

abbrev pub invariant-loop-number : goal.invariant-loop-number
invariant-loop-number l = Reaching (clauses_before l.clauses l.before) l.numbers l.rest l.number-index l.table
