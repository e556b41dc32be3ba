use Rattle.std.proofs.Common.{◌++◌, drop, length, map, take}
use Rattle.pp_steps.specs.Guesses.{all_agreeing}
use Rattle.pp_compile.specs.Guessed.{stands}
use Rattle.pp_compile.proofs.Adding.{IsAheadAdded}
use Rattle.pp_compile.proofs.agree.agree_all.Given as goal

abbrev pub invariant-loop-i : goal.invariant-loop-i
invariant-loop-i l =
    IsAheadAdded l.initial.work l.work l.initial.supposed l.supposed
    (all_agreeing (length l.initial.work.steps) (map stands l.before) (map stands l.new) l.true_one)
    (all_agreeing (length l.work.steps) (map stands l.before ++ map stands (take l.i l.new))
    (map stands (drop l.i l.new)) l.true_one)
