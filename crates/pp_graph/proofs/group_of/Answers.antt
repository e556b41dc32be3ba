use Rattle.std.proofs.Common.{sym, ◌∙◌}
use Rattle.pp_graph.proofs.Groups.{first_on}
use Rattle.pp_graph.proofs.group_of.Goals as goal

pub loop-g-preserved : goal.loop-g-preserved
loop-g-preserved c = sym
    (first_on c.args.rows.now c.args.f c.loop-g.g c.loop-g-test.true (sym c.are_mutual.ensures ∙ c.if-are_mutual.false))
    ∙ c.loop-g.invariant
