use Rattle.std.proofs.Common.{◌≤◌, ap, arith, ◌∙◌}
use Rattle.std.specs.Prelude.{max}
use Rattle.pp_clause.proofs.Bounds.{bound_more, all_of}
use Rattle.pp_clause.proofs.bound.raised.Goals as goal

pub loop-lit-preserved : goal.loop-lit-preserved
loop-lit-preserved c =
    bound_more _ _ _ _ _ c.lit-item.result c.loop-lit.invariant c.loop-lit-test.true c.lit-item.is
    (omega (arith, c.var.ensures.value, c.var.ensures.high))
    (c.max-greatest.ensures ∙ ap (max c.loop-lit.greatest) c.var.ensures.value)

pub returns-clause-up_to : goal.returns-clause-up_to
returns-clause-up_to c =
    all_of (λ l. l.var ≤ c.loop-lit.greatest) c.args.lits.now c.loop-lit.lit-index (omega arith)
    c.loop-lit.invariant.up_to
