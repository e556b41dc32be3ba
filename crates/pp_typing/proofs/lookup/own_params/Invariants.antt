use Rattle.std.proofs.Common.{◌≡◌}
use Rattle.pp_rules.specs.Shapes.{own_params}
use Rattle.pp_typing.proofs.lookup.own_params.Given as goal

abbrev pub invariant-loop-i : goal.invariant-loop-i
invariant-loop-i l = l.params ≡ own_params l.i
