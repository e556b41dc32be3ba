use Rattle.std.proofs.Common.{◌≡◌, take}
use Rattle.pp_prog.specs.Sorts.{param_sorts}
use Rattle.pp_checks.proofs.sorts.sorts_of_params.Given as goal

abbrev pub invariant-loop-p : goal.invariant-loop-p
invariant-loop-p l = l.sorts ≡ param_sorts (take l.p-index l.params)
