use Rattle.std.proofs.Common.{◌≡◌, take}
use Rattle.pp_refute.specs.Table.{put_all}
use Rattle.pp_refute.proofs.table.mark_all.Given as goal

abbrev pub invariant-loop-lit : goal.invariant-loop-lit
invariant-loop-lit l = l.table ≡ put_all l.initial.table (take l.lit-index l.clause)
