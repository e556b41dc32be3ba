use Rattle.std.proofs.Common.{◌≡◌, ◌+◌}
use Rattle.pp_cdcl.specs.Invariant.{Invariant, left}
use Rattle.pp_cdcl.proofs.solving.solve.Given as goal

abbrev pub invariant-loop-search : goal.invariant-loop-search
invariant-loop-search l = record {
  invariant : Invariant l.clauses l.assumptions l.lemmas l.search.watch l.search.log l.search.base;
  sized : l.search.analysis ≡ l.search.watch.vars + 1;
}

abbrev pub decreases-loop-search : goal.decreases-loop-search
decreases-loop-search l = left l.lemmas l.search.watch l.search.log
