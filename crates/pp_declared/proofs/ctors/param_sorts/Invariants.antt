use Rattle.std.proofs.Common.{◌≡◌, [], drop, map}
use Rattle.pp_declared.specs.Declares.{param_types}
use Rattle.pp_sorts.specs.SortOf.{sorts_from}
use Rattle.pp_sorts.specs.Words.{words_of}
use Rattle.pp_tree.specs.Shown.{param_of}
use Rattle.pp_declared.proofs.ctors.param_sorts.Given as goal

abbrev pub invariant-loop-param : goal.invariant-loop-param
invariant-loop-param l =
    sorts_from l.scope.roots.now (words_of l.scope.params.now) l.scope.source [] (param_types (map param_of l.params))
    ≡ sorts_from l.scope.roots.now (words_of l.scope.params.now) l.scope.source l.sorts (param_types (map param_of
    (drop l.param-index l.params)))
