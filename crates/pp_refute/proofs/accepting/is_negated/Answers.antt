use Rattle.std.proofs.Common.{sym, ◌∙◌, arith}
use Rattle.pp_refute.proofs.Negating.{crossed_first, crossed_more, crossed_value, crossed_empty}
use Rattle.pp_refute.proofs.accepting.is_negated.Goals as goal

pub loop-lit-init : goal.loop-lit-init
loop-lit-init c = rw c.mark_all.ensures
    (crossed_first c.args.table.now c.args.clause.now c.requires.empty c.requires.fits c.requires.order)

pub loop-lit-preserved : goal.loop-lit-preserved
loop-lit-preserved c = crossed_more _ _ c.args.clause.now c.args.assumptions.now c.loop-lit.lit-index c.lit-item.result
    (omega arith) c.lit-item.is c.loop-lit.invariant c.strike.ensures

pub returns-clause-value : goal.returns-clause-value
returns-clause-value c =
    c.is_clear_of_clause.ensures
    ∙ crossed_value _ c.args.clause.now c.args.assumptions.now c.loop-lit.lit-index (omega arith) c.loop-lit.invariant

pub returns-clause-empty : goal.returns-clause-empty
returns-clause-empty c =
    λ yes. crossed_empty _ c.args.clause.now _ c.loop-lit.invariant (sym c.is_clear_of_clause.ensures ∙ yes)
