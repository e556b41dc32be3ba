use Rattle.std.proofs.Common.{◌≡◌, ◌++◌, drop, map}
use Rattle.pp_rules.specs.Bodies.{param_scope, typed_params}
use Rattle.pp_tree.specs.Shown.{param_of}
use Rattle.pp_typing.specs.Views.{scope_of}
use Rattle.pp_typing.proofs.params.locals.Given as goal

abbrev pub invariant-loop-i : goal.invariant-loop-i
invariant-loop-i l = param_scope (typed_params (map param_of l.params) l.sorts) ≡ scope_of l.done ++ param_scope
    (typed_params (map param_of (drop l.i l.params)) (drop l.i l.sorts))
