use Rattle.std.proofs.Common.{◌≡◌, take}
use Rattle.pp_call_graph.specs.TypedCalls.{calls_at}
use Rattle.pp_call_graph.proofs.groups.calls_at.Given as goal

abbrev pub invariant-loop-i : goal.invariant-loop-i
invariant-loop-i l = l.calls ≡ calls_at l.typed l.numbers.functions (take l.i-index l.functions)
