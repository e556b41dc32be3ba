use Rattle.std.proofs.Common.{◌≡◌}
use Rattle.pp_checks.specs.Tables.{fields_below}
use Rattle.pp_checks.proofs.heights.field_table.Given as goal

abbrev pub invariant-loop-d : goal.invariant-loop-d
invariant-loop-d l = l.table ≡ fields_below l.types l.d
