use Rattle.pp_declared.specs.Shown.{def_ins}
use Rattle.pp_declared.proofs.Left.{def_turn}
use Rattle.pp_declared.proofs.tables.def_table.Goals as goal

pub loop-d-preserved : goal.loop-d-preserved
loop-d-preserved c =
    def_turn (def_ins c.args.defs.now) c.args.defs.now c.loop-d.d-index _ c.loop-d.table c.declare.new.table
    c.in_ok-declare.field-0 c.loop-d-test.true
    c.loop-d.invariant c.if-not-branch.false c.in_ok-declare.ensures.is_new c.in_ok-declare.ensures.adds
