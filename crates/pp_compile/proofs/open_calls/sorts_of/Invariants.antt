use Rattle.std.proofs.Common.{◌≡◌, ◌++◌, drop}
use Rattle.pp_prog.specs.Sorts.{param_sorts}
use Rattle.pp_compile.proofs.open_calls.sorts_of.Given as goal

abbrev pub invariant-loop-param : goal.invariant-loop-param
invariant-loop-param l = param_sorts l.params ≡ l.sorts ++ param_sorts (drop l.param-index l.params)
