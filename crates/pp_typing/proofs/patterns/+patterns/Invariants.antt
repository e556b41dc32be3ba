use Rattle.std.proofs.Common.{◌≡◌, ◌+◌, ◌*◌, [], drop, length, map, take}
use Rattle.pp_rules.specs.Elab.{elab_patterns}
use Rattle.pp_tree.specs.declared.pattern.Pattern.{size-Pattern}
use Rattle.pp_tree.specs.Shown.{pattern_of, pattern_trees}
use Rattle.pp_typing.specs.Views.{env_of, scope_of}
use Rattle.pp_typing.proofs.patterns.+patterns.Given as goal
use denote.Param.Weighed.{most}

abbrev pub decreases-pattern : goal.decreases-pattern
decreases-pattern l = 3 * size-Pattern l.p.now

abbrev pub decreases-of_ctor : goal.decreases-of_ctor
decreases-of_ctor l = 3 * most size-Pattern l.parts.now + 2

abbrev pub decreases-patterns : goal.decreases-patterns
decreases-patterns l = 3 * most size-Pattern l.parts.now + 1

abbrev pub invariant-patterns-loop-i : goal.invariant-patterns-loop-i
invariant-patterns-loop-i l =
    (elab_patterns (env_of l.context) [] (pattern_trees (map pattern_of l.parts)) l.sorts l.fresh
    (scope_of l.initial.scope)
    ≡ elab_patterns (env_of l.context) l.done (pattern_trees (map pattern_of (drop l.i l.parts)))
    (drop l.i l.sorts) l.fresh (scope_of l.scope))
    × (take (length l.initial.scope) l.scope ≡ l.initial.scope)
