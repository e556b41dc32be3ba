use Rattle.std.proofs.Common.{◌∙◌, ◌-◌, sym, ap, arith, length, Some}
use Rattle.pp_refute.proofs.Numbering.{number_of_lemma, number_of_none}
use Rattle.pp_refute.proofs.replay.clause_at.Goals as goal

pub returns-then-place-before-clause-value : goal.returns-then-place-before-clause-value
returns-then-place-before-clause-value c =
    ap (λ z. Some z) c.lits-then-place-before.ensures.value
    ∙ sym (number_of_lemma c.args.clauses.now c.args.before.now c.args.number (c.args.number - 1 - c.len-2.result)
    c.index-before-place.result (omega arith) (omega (arith, c.len-2.ensures.value)) (omega arith))

pub returns-clause-value : goal.returns-clause-value
returns-clause-value c =
    sym (number_of_none c.args.clauses.now c.args.before.now c.args.number
    ((c.args.number - 1) - length c.args.clauses.now) (omega arith) (omega (arith, c.len-2.ensures.value))
    (omega (arith, c.len-2.ensures.value)))
