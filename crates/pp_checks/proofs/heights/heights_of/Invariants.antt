use Rattle.std.proofs.Common.{◌≡◌, map, take}
use Rattle.pp_checks.specs.Tables.{tallest_params}
use Rattle.pp_checks.proofs.heights.heights_of.Given as goal

abbrev pub invariant-loop-f : goal.invariant-loop-f
invariant-loop-f l = l.heights ≡ map (tallest_params l.depths) (take l.f-index l.functions)
