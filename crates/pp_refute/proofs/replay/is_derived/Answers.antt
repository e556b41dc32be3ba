use Rattle.pp_refute.specs.Checking.{clauses_before}
use Rattle.pp_refute.proofs.Clearing.{verdict}
use Rattle.pp_refute.proofs.replay.is_derived.Goals as goal

pub returns-clause-yes : goal.returns-clause-yes
returns-clause-yes c = λ yes.
    (verdict (clauses_before c.args.clauses.now c.args.before.now) _ _ _ _ _ _ c.numbers-numbers.ensures.value
    c.lits.ensures.value
    (c.run.ensures.yes c.if-not-run.false) (c.take_out.ensures.yes c.if-not-take_out.false)
    (c.is_clear.ensures.yes yes)).0

pub returns-clause-empty : goal.returns-clause-empty
returns-clause-empty c = λ yes.
    (verdict (clauses_before c.args.clauses.now c.args.before.now) _ _ _ _ _ _ c.numbers-numbers.ensures.value
    c.lits.ensures.value
    (c.run.ensures.yes c.if-not-run.false) (c.take_out.ensures.yes c.if-not-take_out.false)
    (c.is_clear.ensures.yes yes)).1
