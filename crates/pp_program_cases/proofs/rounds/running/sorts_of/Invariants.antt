use Rattle.std.proofs.Common.{◌≡◌, take}
use Rattle.pp_prog.specs.Sorts.{param_sorts}
use Rattle.pp_program_cases.proofs.rounds.running.sorts_of.Given as goal

abbrev pub invariant-loop-param : goal.invariant-loop-param
invariant-loop-param l = l.sorts ≡ param_sorts (take l.param-index l.params)
