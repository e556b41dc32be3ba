use Rattle.std.proofs.Common.{◌≡◌, subst, arith, List, Option}
use Rattle.pp_clause.specs.Literal.{Literal}
use Rattle.pp_clause.proofs.Merging.{Merged, merged_skip, merged_first, merged_next, merged_both, differ_from}
use Rattle.pp_clause.proofs.Merging.{same_from}
use Rattle.pp_clause.proofs.clause.merged.Goals.{in-None+in_ok-push-in-None, in-Some+then-var+in_ok-push-in-Some}
use Rattle.pp_clause.proofs.clause.merged.Goals.{in-Some+else-var+else-is_positive}
use Rattle.pp_clause.proofs.clause.merged.Goals as goal

so_far : (done ls : List Literal) (o p : Option Literal) → o ≡ p → Merged done ls o → Merged done ls p
so_far done ls o p e m = subst (λ (q : Option Literal). Merged done ls q) e m

pub returns-then-is_positive-clause-none : goal.returns-then-is_positive-clause-none
returns-then-is_positive-clause-none c =
    merged_both _ _ c.loop-lit.lit-index c.in-Some.before c.lit-item.result (omega arith) c.lit-item.is
    (so_far _ _ _ _ c.in-Some.is c.loop-lit.invariant) (omega arith)
    (differ_from _ _ _ _ c.is_positive.ensures c.is_positive-else-var.ensures c.if-is_positive.true)

pub loop-lit-preserved : goal.loop-lit-preserved
loop-lit-preserved c =
    elim c.match-last.branch [
      | in-None+in_ok-push-in-None w ↦ rw (w.lits-is, w.last-is, w.in_ok-push-in-None.ensures.ok)
          (merged_first _ _ c.loop-lit.lit-index c.lit-item.result (omega arith) c.lit-item.is
          (omega arith, omega arith) (so_far _ _ _ _ w.in-None.is c.loop-lit.invariant))
      | in-Some+then-var+in_ok-push-in-Some w ↦ rw (w.lits-is, w.last-is, w.in_ok-push-in-Some.ensures.ok)
          (merged_next _ _ c.loop-lit.lit-index w.in-Some.before c.lit-item.result c.requires (omega arith)
          c.lit-item.is (omega arith, omega arith) (so_far _ _ _ _ w.in-Some.is c.loop-lit.invariant)
          (λ e. w.if-var.true (omega arith)))
      | in-Some+else-var+else-is_positive w ↦ rw (w.lits-is, w.last-is)
          (merged_skip _ _ c.loop-lit.lit-index w.in-Some.before c.lit-item.result (omega arith) c.lit-item.is
          (so_far _ _ _ _ w.in-Some.is c.loop-lit.invariant) (omega arith)
          (same_from _ _ _ _ w.is_positive.ensures w.is_positive-else-var.ensures w.if-is_positive.false))
    ]
