use Rattle.pp_named_instances.proofs.LevelLoops.{levels_none}
use Rattle.pp_named_instances.proofs.levels.make_sort_level.Goals as goal

pub returns-in-Int : goal.returns-in-Int
returns-in-Int c =
    rw c.in-Int.is (record {
      levels = levels_none c.args.table.now c.args.trees.now c.args.circuit.now 0 c.requires.fits;
      has = tt;
    })

pub returns-in-Bool : goal.returns-in-Bool
returns-in-Bool c =
    rw c.in-Bool.is (record {
      levels = levels_none c.args.table.now c.args.trees.now c.args.circuit.now 0 c.requires.fits;
      has = tt;
    })

pub returns-in_ok-make_level-in-Tree-clause-has : goal.returns-in_ok-make_level-in-Tree-clause-has
returns-in_ok-make_level-in-Tree-clause-has c =
    rw c.in-Tree.is (λ one. c.in_ok-make_level-in-Tree.ensures.has)

pub returns-else-is_one_group-clause-levels : goal.returns-else-is_one_group-clause-levels
returns-else-is_one_group-clause-levels c =
    levels_none c.args.table.now c.args.trees.now c.args.circuit.now _ c.requires.fits
