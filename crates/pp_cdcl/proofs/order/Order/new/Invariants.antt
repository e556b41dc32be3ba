use Rattle.std.proofs.Common.{◌≡◌}
use Rattle.pp_cdcl.proofs.order.Order.new.Given as goal

abbrev pub invariant-loop-var : goal.invariant-loop-var
invariant-loop-var l = l.order ≡ l.count
