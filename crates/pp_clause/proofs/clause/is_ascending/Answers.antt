use Rattle.std.proofs.Common.{take, ◌+◌, sym, subst, arith}
use Rattle.std.proofs.lemmas.Bool.{false≢true}
use Rattle.pp_clause.proofs.Climbing.{Climbed, climbed_next, falls}
use Rattle.pp_clause.proofs.clause.is_ascending.Goals as goal

pub returns-then-var-last : goal.returns-then-var-last
returns-then-var-last c = (
  λ h. absurd (false≢true h),
  λ o. absurd (falls _ _ _ c.lit-item.result (omega arith) c.lit-item.is (omega arith) (omega arith)
      c.loop-lit.invariant o),
)

pub loop-lit-preserved : goal.loop-lit-preserved
loop-lit-preserved c =
    subst (Climbed (take (c.loop-lit.lit-index + 1) c.args.lits.now)) (sym c.var-var.ensures.value)
    (climbed_next _ _ _ c.lit-item.result (omega arith) c.lit-item.is (omega arith, omega arith) (omega arith)
    c.loop-lit.invariant)
