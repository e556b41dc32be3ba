use Rattle.std.proofs.Common.{◌≡◌, ◌++◌, take}
use Rattle.pp_call_graph.specs.TypedCalls.{all_calls, all_case_calls}
use Rattle.pp_call_graph.proofs.calls.+calls.Given as goal

abbrev pub invariant-add_all-loop-e : goal.invariant-add_all-loop-e
invariant-add_all-loop-e l =
    l.found ≡ l.initial.found ++ all_calls l.numbers.functions l.args (take l.e-index l.es)

abbrev pub invariant-add_cases-loop-c : goal.invariant-add_cases-loop-c
invariant-add_cases-loop-c l =
    l.found ≡ l.initial.found ++ all_case_calls l.numbers.functions l.args (take l.c-index l.cases)
