use Rattle.std.proofs.Common.{drop, length}
use Rattle.pp_steps.specs.Compile.{all_of}
use Rattle.pp_compile.proofs.Ahead.{IsAhead}
use Rattle.pp_compile.proofs.emit.all_of.Given as goal

abbrev pub invariant-loop-test : goal.invariant-loop-test
invariant-loop-test l =
    IsAhead l.initial.work l.work (all_of (length l.initial.work.steps) l.tests l.alive)
    (all_of (length l.work.steps) (drop l.test-index l.tests) l.all)
