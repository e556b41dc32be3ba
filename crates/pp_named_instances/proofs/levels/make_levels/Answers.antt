use Rattle.std.proofs.lemmas.Option.{slice_get-get_or}
use Rattle.pp_prog.specs.Sizes.{ctors_of}
use Rattle.pp_named_instances.proofs.LevelLoops.{ctor_next, ctor_turn, ctors_none, ctors_turn, ctors_whole, level_later}
use Rattle.pp_named_instances.proofs.LevelLoops.{levels_more, levels_room}
use Rattle.pp_named_instances.proofs.levels.make_levels.Goals as goal

pub loop-place-init : goal.loop-place-init
loop-place-init c =
    let one = c.in_ok-make_level.ensures in
    record {
      levels = one.levels;
      own = one.has;
      has = ctors_none c.make_level.new.trees.groups c.make_level.new.trees.levels c.args.d;
    }

pub make_sort_levels-requires-clause-room : goal.make_sort_levels-requires-clause-room
make_sort_levels-requires-clause-room c =
    let ctors = c.ctors_of-ctors.result.now in
    let at = slice_get-get_or ctors c.loop-place.place c.index-ctors-place.result c.loop-place-test.true in
    levels_room c.args.table.now c.args.trees.now c.loop-place.trees c.args.circuit.now c.loop-place.circuit _ _ _ _
    c.loop-place.invariant.levels
    (ctor_next ctors (ctors_of c.args.table.now c.args.d) c.loop-place.place _ _ at c.as_slice-sorts.ensures
    c.ctors_of-ctors.ensures) c.requires.room

pub returns-in_err-make_sort_levels-clause-levels : goal.returns-in_err-make_sort_levels-clause-levels
returns-in_err-make_sort_levels-clause-levels c =
    let ctors = c.ctors_of-ctors.result.now in
    let at = slice_get-get_or ctors c.loop-place.place c.index-ctors-place.result c.loop-place-test.true in
    levels_more c.args.table.now c.args.trees.now c.loop-place.trees c.make_sort_levels.new.trees c.args.circuit.now
    c.loop-place.circuit c.make_sort_levels.new.circuit _ _ _ c.loop-place.invariant.levels
    c.in_err-make_sort_levels.ensures.levels
    (ctor_next ctors (ctors_of c.args.table.now c.args.d) c.loop-place.place _ _ at c.as_slice-sorts.ensures
    c.ctors_of-ctors.ensures)

pub loop-place-preserved : goal.loop-place-preserved
loop-place-preserved c =
    let ctors = c.ctors_of-ctors.result.now in
    let at = slice_get-get_or ctors c.loop-place.place c.index-ctors-place.result c.loop-place-test.true in
    let now = c.loop-place.invariant in
    let one = c.in_ok-make_sort_levels.ensures in
    record {
      levels = levels_more c.args.table.now c.args.trees.now c.loop-place.trees c.make_sort_levels.new.trees
          c.args.circuit.now c.loop-place.circuit c.make_sort_levels.new.circuit _ _ _ now.levels one.levels
          (ctor_turn ctors c.loop-place.place _ _ at c.as_slice-sorts.ensures);
      own = level_later c.args.table.now c.loop-place.trees c.make_sort_levels.new.trees c.loop-place.circuit
          c.make_sort_levels.new.circuit _ c.args.d one.levels now.own;
      has = ctors_turn c.args.table.now c.loop-place.trees c.make_sort_levels.new.trees c.loop-place.circuit
          c.make_sort_levels.new.circuit _ c.args.d ctors c.loop-place.place _ _ at c.as_slice-sorts.ensures one.levels
          now.has one.has;
    }

pub returns-clause-has : goal.returns-clause-has
returns-clause-has c =
    record {
      own = c.loop-place.invariant.own;
      fields = ctors_whole c.loop-place.trees.groups c.loop-place.trees.levels c.args.d c.ctors_of-ctors.result.now _
          c.loop-place.place c.ctors_of-ctors.ensures c.loop-place-test.false c.loop-place.invariant.has;
    }
