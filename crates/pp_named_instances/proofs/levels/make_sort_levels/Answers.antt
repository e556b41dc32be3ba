use Rattle.std.proofs.lemmas.Option.{slice_get-get_or}
use Rattle.pp_prog.specs.declared.sort.Sort.TheVariants as sort
use Rattle.pp_named_instances.specs.Levels.{level_gates}
use Rattle.pp_named_instances.proofs.ContentTests.{total_next, total_turn}
use Rattle.pp_named_instances.proofs.LevelLoops.{groups_later, levels_more, levels_none, levels_room}
use Rattle.pp_named_instances.proofs.LevelLoops.{sorts_none, sorts_turn, sorts_whole}
use Rattle.pp_named_instances.proofs.levels.make_sort_levels.Goals as goal

pub make_sort_level-requires-clause-groups : goal.make_sort_level-requires-clause-groups
make_sort_level-requires-clause-groups c =
    groups_later c.args.table.now c.args.trees.now c.loop-place.trees c.args.circuit.now c.loop-place.circuit _
    c.loop-place.invariant.levels c.requires.groups

pub make_sort_level-requires-clause-room : goal.make_sort_level-requires-clause-room
make_sort_level-requires-clause-room c =
    let at = slice_get-get_or c.args.sorts.now c.loop-place.place sort.Int c.loop-place-test.true in
    levels_room c.args.table.now c.args.trees.now c.loop-place.trees c.args.circuit.now c.loop-place.circuit _ _ _ _
    c.loop-place.invariant.levels (total_next level_gates c.args.sorts.now c.loop-place.place _ at) c.requires.room

pub returns-in_err-make_sort_level-clause-levels : goal.returns-in_err-make_sort_level-clause-levels
returns-in_err-make_sort_level-clause-levels c =
    let at = slice_get-get_or c.args.sorts.now c.loop-place.place sort.Int c.loop-place-test.true in
    levels_more c.args.table.now c.args.trees.now c.loop-place.trees c.make_sort_level.new.trees c.args.circuit.now
    c.loop-place.circuit c.make_sort_level.new.circuit _ _ _ c.loop-place.invariant.levels
    c.in_err-make_sort_level.ensures.levels (total_next level_gates c.args.sorts.now c.loop-place.place _ at)

pub loop-place-preserved : goal.loop-place-preserved
loop-place-preserved c =
    let at = slice_get-get_or c.args.sorts.now c.loop-place.place sort.Int c.loop-place-test.true in
    let now = c.loop-place.invariant in
    let one = c.in_ok-make_sort_level.ensures in
    record {
      levels = levels_more c.args.table.now c.args.trees.now c.loop-place.trees c.make_sort_level.new.trees
          c.args.circuit.now c.loop-place.circuit c.make_sort_level.new.circuit _ _ _ now.levels one.levels
          (total_turn level_gates c.args.sorts.now c.loop-place.place _ at);
      has = sorts_turn c.args.table.now c.loop-place.trees c.make_sort_level.new.trees c.loop-place.circuit
          c.make_sort_level.new.circuit _ c.args.d c.args.sorts.now c.loop-place.place _ at one.levels now.has one.has;
    }

pub returns-clause-has : goal.returns-clause-has
returns-clause-has c =
    sorts_whole c.loop-place.trees.groups c.loop-place.trees.levels c.args.d c.args.sorts.now c.loop-place.place
    c.loop-place-test.false c.loop-place.invariant.has

pub loop-place-init : goal.loop-place-init
loop-place-init c =
    record {
      levels = levels_none c.args.table.now c.args.trees.now c.args.circuit.now 0 c.requires.fits;
      has = sorts_none c.args.trees.now.groups c.args.trees.now.levels c.args.d;
    }
