use Rattle.std.proofs.Common.{◌≡◌, ◌++◌, drop, map}
use Rattle.pp_prog.specs.Results.{bind_each, binds}
use Rattle.pp_checks.proofs.sorts.+bind.Given as goal

abbrev pub invariant-bind_all-loop-i : goal.invariant-bind_all-loop-i
invariant-bind_all-loop-i l =
    l.initial.scope ++ bind_each (map (binds l.ctors) l.patterns) l.sorts ≡ l.scope ++ bind_each (map (binds
    l.ctors) (drop l.i l.patterns)) (drop l.i l.sorts)
