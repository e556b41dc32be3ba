use Rattle.std.proofs.Common.{◌≡◌, Some, drop}
use Rattle.pp_prog.specs.Sorts.{param_sorts}
use Rattle.pp_checks.specs.Tables.{tallest_in}
use Rattle.pp_checks.proofs.heights.tallest.Given as goal

abbrev pub invariant-loop-p : goal.invariant-loop-p
invariant-loop-p l =
    tallest_in l.depths (Some 0) (param_sorts l.params) ≡ tallest_in l.depths l.most (param_sorts (drop l.p-index
    l.params))
