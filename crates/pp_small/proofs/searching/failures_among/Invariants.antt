use Rattle.std.specs.Prelude.{All}
use Rattle.pp_small.specs.Failing.{IsFailure}
use Rattle.pp_small.proofs.searching.failures_among.Given as goal

abbrev pub invariant-loop : goal.invariant-loop
invariant-loop l = All (IsFailure l.program l.question.function.0 l.question.fuel l.question.depth) l.failures
