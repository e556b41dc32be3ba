use Rattle.std.proofs.Common.{◌≡◌, true, take}
use Rattle.std.specs.List.{list_all}
use Rattle.pp_checks.specs.Tables.{is_before}
use Rattle.pp_checks.proofs.nesting.are_before.Given as goal

abbrev pub invariant-loop-g : goal.invariant-loop-g
invariant-loop-g l = list_all (is_before l.depths l.depth) (take l.g-index l.gs) ≡ true
