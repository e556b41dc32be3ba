use Rattle.pp_declared.specs.Shown.{class_ins}
use Rattle.pp_declared.proofs.Left.{class_turn}
use Rattle.pp_declared.proofs.tables.class_table.Goals as goal

pub loop-c-preserved : goal.loop-c-preserved
loop-c-preserved c =
    class_turn (class_ins c.args.classes.now) c.args.classes.now c.loop-c.c-index _ c.loop-c.table c.declare.new.table
    c.in_ok-declare.field-0 c.loop-c-test.true
    c.loop-c.invariant c.if-not-branch.false c.in_ok-declare.ensures.is_new c.in_ok-declare.ensures.adds
