use Rattle.std.proofs.Common.{◌≡◌, drop}
use Rattle.std.specs.List.{list_any}
use Rattle.pp_declared.specs.WellFormed.{is_mark}
use Rattle.pp_declared.proofs.well_formed.has_mark.Given as goal

abbrev pub invariant-loop-byte : goal.invariant-loop-byte
invariant-loop-byte l = list_any is_mark l.name ≡ list_any is_mark (drop l.byte-index l.name)
