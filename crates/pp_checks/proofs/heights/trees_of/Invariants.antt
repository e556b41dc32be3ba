use Rattle.std.proofs.Common.{◌≡◌, ◌++◌, drop, map}
use Rattle.pp_list.specs.Joined.{joined}
use Rattle.pp_prog.specs.Sizes.{sorts_in_ctor}
use Rattle.pp_checks.specs.Tables.{trees_in}
use Rattle.pp_checks.proofs.heights.trees_of.Given as goal

abbrev pub invariant-loop-c : goal.invariant-loop-c
invariant-loop-c l =
    trees_in (joined (map sorts_in_ctor l.ctors)) ≡ l.found ++ trees_in (joined (map sorts_in_ctor (drop l.c-index
    l.ctors)))
