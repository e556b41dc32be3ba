use Rattle.std.proofs.Common.{◌≡◌, ◌++◌, drop, length, map}
use Rattle.pp_prog.specs.Sorts.{param_sorts}
use Rattle.pp_steps.specs.Frames.{numbers, open_step}
use Rattle.pp_compile.proofs.run.open.Given as goal

abbrev pub invariant-loop-param : goal.invariant-loop-param
invariant-loop-param l =
    (map open_step (param_sorts l.params) ≡ l.work.steps ++ map open_step (param_sorts (drop l.param-index l.params)))
    × (numbers 0 (param_sorts l.params) ≡ l.out ++ numbers l.param-index (param_sorts (drop l.param-index l.params)))
    × (length l.work.steps ≡ l.param-index)
    × (l.work.fails ≡ l.initial.work.fails)
