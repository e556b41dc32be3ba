use Rattle.std.proofs.Common.{◌≡◌, drop}
use Rattle.pp_rules.specs.Scope.{place, place_from}
use Rattle.pp_typing.specs.Views.{scope_of}
use Rattle.pp_typing.proofs.scope.place.Given as goal

abbrev pub invariant-loop-i : goal.invariant-loop-i
invariant-loop-i l = place l.name (scope_of l.scope) ≡ place_from l.best l.i l.name (scope_of (drop l.i l.scope))
