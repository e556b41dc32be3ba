use Rattle.std.proofs.Common.{◌∙◌, sym, arith}
use Rattle.pp_refute.proofs.Clearing.{has_some, clear_more, clear_some, clear_none}
use Rattle.pp_clause.proofs.Bounds.{all_of}
use Rattle.pp_refute.specs.Checking.{clauses_before, IsClearOfNumber}
use Rattle.pp_refute.proofs.replay.is_clear.Goals.{in-Some+else-not-is_clear_of_clause, in_default}
use Rattle.pp_refute.proofs.replay.is_clear.Goals as goal

pub returns-then-not-is_clear_of_clause-clause-no : goal.returns-then-not-is_clear_of_clause-clause-no
returns-then-not-is_clear_of_clause-clause-no c =
    λ _. has_some c.args.table.now c.in-Some.clause.now
    (sym c.is_clear_of_clause.ensures ∙ c.if-not-is_clear_of_clause.true)

pub loop-number-preserved : goal.loop-number-preserved
loop-number-preserved c =
    clear_more c.args.table.now (clauses_before c.args.clauses.now c.args.before.now) c.args.numbers.now
    c.loop-number.number-index (omega arith) c.loop-number.invariant
    (elim c.match-clause_at.branch [
      | in-Some+else-not-is_clear_of_clause w ↦
          clear_some c.args.table.now _ w.in-Some.clause.now (sym w.in-Some.ensures.value)
          (sym w.is_clear_of_clause.ensures ∙ w.if-not-is_clear_of_clause.false)
      | in_default w ↦ clear_none c.args.table.now _ (sym w.in_default.ensures.value)
    ])

pub returns-clause-yes : goal.returns-clause-yes
returns-clause-yes c = λ _. all_of
    (IsClearOfNumber c.args.table.now (clauses_before c.args.clauses.now c.args.before.now)) c.args.numbers.now
    c.loop-number.number-index (omega arith) c.loop-number.invariant
