use Rattle.std.proofs.Common.{◌≡◌, drop}
use Rattle.pp_inhabited.specs.Table.{all_live}
use Rattle.pp_inhabited.proofs.table.all_live.Given as goal

abbrev pub invariant-loop-sort : goal.invariant-loop-sort
invariant-loop-sort l = all_live l.roots l.rows l.mask l.sorts
    ≡ all_live l.roots l.rows l.mask (drop l.sort-index l.sorts)
