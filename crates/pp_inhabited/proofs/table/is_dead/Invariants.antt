use Rattle.std.proofs.Common.{◌≡◌, ◌-◌}
use Rattle.pp_inhabited.specs.Table.{is_dead}
use Rattle.pp_inhabited.proofs.table.is_dead.Given as goal

abbrev pub invariant-loop : goal.invariant-loop
invariant-loop l = is_dead l.mask l.param ≡ is_dead l.rest (l.param - l.counter)
