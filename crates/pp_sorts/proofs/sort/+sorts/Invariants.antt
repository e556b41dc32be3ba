use Rattle.std.proofs.Common.{◌≡◌, [], drop, map}
use Rattle.pp_sorts.specs.SortOf.{sorts_from}
use Rattle.pp_sorts.specs.Words.{words_of}
use Rattle.pp_tree.specs.Shown.{type_of, type_trees}
use Rattle.pp_sorts.proofs.sort.+sorts.Given as goal

abbrev pub invariant-sorts_of-loop-text : goal.invariant-sorts_of-loop-text
invariant-sorts_of-loop-text l =
    sorts_from l.scope.roots.now (words_of l.scope.params.now) l.scope.source [] (type_trees (map type_of l.texts))
    ≡ sorts_from l.scope.roots.now (words_of l.scope.params.now) l.scope.source l.sorts (type_trees (map type_of
    (drop l.text-index l.texts)))
