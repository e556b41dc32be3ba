use Rattle.std.proofs.Common.{◌≡◌, true, take}
use Rattle.std.specs.List.{list_all}
use Rattle.pp_turns.specs.Parts.{has_ended}
use Rattle.pp_turns.proofs.turns.have_ended.Given as goal

abbrev pub invariant-loop-check : goal.invariant-loop-check
invariant-loop-check l = list_all has_ended (take l.check-index l.checks) ≡ true
