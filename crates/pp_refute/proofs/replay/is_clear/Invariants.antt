use Rattle.std.proofs.Common.{take}
use Rattle.pp_refute.specs.Checking.{clauses_before, IsClearOfAll}
use Rattle.pp_refute.proofs.replay.is_clear.Given as goal

abbrev pub invariant-loop-number : goal.invariant-loop-number
invariant-loop-number l = IsClearOfAll l.table (clauses_before l.clauses l.before) (take l.number-index l.numbers)
