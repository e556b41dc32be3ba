use Rattle.std.proofs.Common.{◌≡◌, length}
use Rattle.pp_clause.proofs.Bounds.{IsGreatest}
use Rattle.pp_clause.proofs.bound.greatest_var.Given as goal

abbrev pub invariant-loop-place : goal.invariant-loop-place
invariant-loop-place l = record {
  end : l.place-end ≡ length l.clauses;
  greatest : IsGreatest l.clauses l.place
      l.greatest;
}
