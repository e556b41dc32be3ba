use Rattle.std.proofs.Common.{◌≡◌, map, take}
use Rattle.pp_prog.specs.Calls.{function_calls}
use Rattle.pp_prog.proofs.calls.call_table.Given as goal

abbrev pub invariant-loop-f : goal.invariant-loop-f
invariant-loop-f l = l.calls ≡ map function_calls (take l.f-index l.functions)
