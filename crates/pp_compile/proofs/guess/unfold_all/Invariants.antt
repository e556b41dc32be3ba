use Rattle.std.proofs.Common.{drop, length, map}
use Rattle.pp_steps.specs.Guesses.{all_unfolded}
use Rattle.pp_compile.specs.Guessed.{stands}
use Rattle.pp_compile.proofs.Adding.{IsAheadAdded}
use Rattle.pp_compile.proofs.guess.unfold_all.Given as goal

abbrev pub invariant-loop-c : goal.invariant-loop-c
invariant-loop-c l =
    IsAheadAdded l.initial.work l.work l.initial.supposed l.supposed
    (all_unfolded l.functions l.wait (length l.initial.work.steps) (map stands l.calls))
    (all_unfolded l.functions l.wait (length l.work.steps) (map stands (drop l.c-index l.calls)))
