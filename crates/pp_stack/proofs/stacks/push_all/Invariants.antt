use Rattle.std.proofs.Common.{◌≡◌, ◌++◌, take}
use Rattle.pp_stack.proofs.stacks.push_all.Given as goal

abbrev pub invariant-loop-held : goal.invariant-loop-held
invariant-loop-held l = l.to ≡ l.initial.to ++ take l.held-index l.helds
