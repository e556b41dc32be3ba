use Rattle.std.proofs.Common.{◌≡◌, true, take}
use Rattle.std.specs.List.{list_all}
use Rattle.pp_checks.specs.Rules.{is_component}
use Rattle.pp_checks.proofs.rules.are_components.Given as goal

abbrev pub invariant-loop-s : goal.invariant-loop-s
invariant-loop-s l = list_all is_component (take l.s-index l.sorts) ≡ true
