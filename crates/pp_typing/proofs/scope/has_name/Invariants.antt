use Rattle.std.proofs.Common.{◌≡◌, drop}
use Rattle.pp_rules.specs.Scope.{has_name}
use Rattle.pp_typing.specs.Views.{scope_of}
use Rattle.pp_typing.proofs.scope.has_name.Given as goal

abbrev pub invariant-loop-local : goal.invariant-loop-local
invariant-loop-local l =
    has_name l.name (scope_of l.scope) ≡ has_name l.name (scope_of (drop l.local-index l.scope))
