use Rattle.std.proofs.Common.{◌≡◌, ◌++◌, map, take}
use Rattle.pp_list.specs.Joined.{joined}
use Rattle.pp_prog.specs.Calls.{calls, calls_in_case}
use Rattle.pp_prog.proofs.calls.+calls.Given as goal

abbrev pub invariant-add_all-loop-e : goal.invariant-add_all-loop-e
invariant-add_all-loop-e l = l.found ≡ l.initial.found ++ joined (map calls (take l.e-index l.es))

abbrev pub invariant-add_cases-loop-c : goal.invariant-add_cases-loop-c
invariant-add_cases-loop-c l = l.found ≡ l.initial.found ++ joined (map calls_in_case (take l.c-index l.cases))
