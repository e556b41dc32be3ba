use Rattle.std.proofs.Common.{◌≡◌, drop, map}
use Rattle.pp_declared.specs.Declares.{are_params}
use Rattle.pp_sorts.specs.Words.{words_of}
use Rattle.pp_tree.specs.Shown.{type_of, type_trees}
use Rattle.pp_declared.proofs.roots.are_params.Given as goal

abbrev pub invariant-loop-i : goal.invariant-loop-i
invariant-loop-i l =
    are_params (words_of l.params) (type_trees (map type_of l.texts))
    ≡ are_params (words_of (drop l.i l.params)) (type_trees (map type_of (drop l.i l.texts)))
