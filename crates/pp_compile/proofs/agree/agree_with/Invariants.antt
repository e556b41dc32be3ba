use Rattle.std.proofs.Common.{drop, length, map}
use Rattle.pp_steps.specs.Guesses.{agreeing_with}
use Rattle.pp_compile.specs.Guessed.{stands}
use Rattle.pp_compile.proofs.Adding.{IsAheadAdded}
use Rattle.pp_compile.proofs.agree.agree_with.Given as goal

abbrev pub invariant-loop-d : goal.invariant-loop-d
invariant-loop-d l =
    IsAheadAdded l.initial.work l.work l.initial.supposed l.supposed
    (agreeing_with (length l.initial.work.steps) (stands l.c) (map stands l.others) l.true_one)
    (agreeing_with (length l.work.steps) (stands l.c) (map stands (drop l.d-index l.others)) l.true_one)
