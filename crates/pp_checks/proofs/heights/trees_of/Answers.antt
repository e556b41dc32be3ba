use Rattle.std.proofs.Common.{◌++◌, List, ◌∙◌, ap, map}
use Rattle.pp_list.specs.Joined.{joined}
use Rattle.pp_prog.specs.declared.sort.Sort.{Sort}
use Rattle.pp_prog.specs.Sizes.{sorts_in_ctor}
use Rattle.pp_checks.specs.Tables.{trees_in}
use Rattle.pp_checks.proofs.Tallest.{trees_more}
use Rattle.pp_checks.proofs.heights.trees_of.Goals as goal

pub loop-c-preserved : goal.loop-c-preserved
loop-c-preserved c =
    trees_more c.args.ctors.now c.loop-c.c-index c.c-item.result (trees_in (joined (map sorts_in_ctor
    c.args.ctors.now))) c.loop-c.found c.add_trees.new.found c.loop-c-test.true c.c-item.is c.loop-c.invariant
    (c.in_ok-add_trees.ensures ∙ ap (λ (l : List Sort). c.loop-c.found ++ trees_in l) c.as_slice.ensures)
