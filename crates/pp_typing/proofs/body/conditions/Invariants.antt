use Rattle.std.proofs.Common.{◌≡◌, [], drop, map}
use Rattle.pp_rules.specs.Bodies.{elab_conditions}
use Rattle.pp_tree.specs.Shown.{tree_of}
use Rattle.pp_typing.specs.Views.{env_of, scope_of}
use Rattle.pp_typing.proofs.body.conditions.Given as goal

abbrev pub invariant-loop-i : goal.invariant-loop-i
invariant-loop-i l =
    (elab_conditions (env_of l.context) [] (map tree_of l.es) (scope_of l.initial.scope)
    ≡ elab_conditions (env_of l.context) l.done (map tree_of (drop l.i l.es)) (scope_of l.initial.scope))
    × (l.scope ≡ l.initial.scope)
