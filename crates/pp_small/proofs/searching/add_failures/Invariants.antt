use Rattle.std.specs.Prelude.{All}
use Rattle.pp_small.specs.Failing.{IsFailure}
use Rattle.pp_small.proofs.searching.add_failures.Given as goal

abbrev pub invariant-loop-args : goal.invariant-loop-args
invariant-loop-args l = All (IsFailure l.program l.question.function.0 l.question.fuel l.question.depth) l.failures
