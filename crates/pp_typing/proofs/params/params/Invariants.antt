use Rattle.std.proofs.Common.{◌≡◌, ◌++◌, drop, map}
use Rattle.pp_rules.specs.Bodies.{typed_params}
use Rattle.pp_tree.specs.Shown.{param_of}
use Rattle.pp_typing.proofs.params.params.Given as goal

abbrev pub invariant-loop-i : goal.invariant-loop-i
invariant-loop-i l = typed_params (map param_of l.params) l.sorts ≡ l.done ++ typed_params (map param_of
    (drop l.i l.params)) (drop l.i l.sorts)
