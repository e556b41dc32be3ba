use Rattle.std.proofs.Common.{◌≡◌, false, replicate}
use Rattle.pp_inhabited.proofs.uninhabited.empty_rows.Given as goal

abbrev pub invariant-loop : goal.invariant-loop
invariant-loop l = l.rows ≡ replicate l.counter false
