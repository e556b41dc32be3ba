use Rattle.std.proofs.Common.{refl, ℕ, sym, arith, length, subst}
use Rattle.pp_clause.proofs.Soundness.{All-numbered}
use Rattle.pp_clause.specs.Bound.{Fits}
use Rattle.pp_refute.specs.Checking.{clauses_before, AllFit}
use Rattle.pp_refute.proofs.Running.{no_numbers, none_first, reaching_first, none_next, stuck_next, reaching_next}
use Rattle.pp_refute.proofs.Running.{reaching_end}
use Rattle.pp_refute.proofs.replay.run.Goals as goal

pub returns-in_default-clause-no : goal.returns-in_default-clause-no
returns-in_default-clause-no c = λ _. no_numbers _ _ c.in_default.ensures.cases

pub returns-in_default-clause_at-clause-no : goal.returns-in_default-clause_at-clause-no
returns-in_default-clause_at-clause-no c =
    λ _. none_first _ _ c.in-Some.first.now c.in-Some.rest.now c.in-Some.ensures.cases.0
    (sym c.in_default-clause_at.ensures.value)

pub mark_all-requires : goal.mark_all-requires
mark_all-requires c =
    All-numbered (Fits (length c.args.table.now)) (clauses_before c.args.clauses.now c.args.before.now)
    c.in-Some.first.now c.in-Some-clause_at.clause.now c.requires.fits (sym c.in-Some-clause_at.ensures.value)

pub loop-number-init : goal.loop-number-init
loop-number-init c =
    rw c.mark_all.ensures
    (reaching_first _ _ c.in-Some.first.now c.in-Some.rest.now c.in-Some-clause_at.clause.now c.args.table.now
    c.in-Some.ensures.cases.0 (sym c.in-Some-clause_at.ensures.value) c.in-Some-clause_at.ensures.order
    c.requires.empty
    (All-numbered (Fits (length c.args.table.now)) (clauses_before c.args.clauses.now c.args.before.now)
    c.in-Some.first.now c.in-Some-clause_at.clause.now c.requires.fits (sym c.in-Some-clause_at.ensures.value)))

pub returns-in_default-clause_at-2-clause-no : goal.returns-in_default-clause_at-2-clause-no
returns-in_default-clause_at-2-clause-no c =
    λ _. none_next _ _ _ c.loop-number.number-index _ _ (omega arith) refl c.loop-number.invariant
    (sym c.in_default-clause_at-2.ensures.value)

pub resolve-requires-clause-fits : goal.resolve-requires-clause-fits
resolve-requires-clause-fits c =
    All-numbered (Fits (length c.loop-number.table)) (clauses_before c.args.clauses.now c.args.before.now) _
    c.in-Some-clause_at-2.clause.now
    (subst (λ (n : ℕ). AllFit n (clauses_before c.args.clauses.now c.args.before.now))
    (omega (arith, c.loop-number.auto.table, c.mark_all.auto.table)) c.requires.fits)
    (sym c.in-Some-clause_at-2.ensures.value)

pub returns-then-not-resolve-clause-no : goal.returns-then-not-resolve-clause-no
returns-then-not-resolve-clause-no c =
    λ _. stuck_next _ _ _ c.loop-number.number-index _ _ _ (omega arith) refl c.loop-number.invariant
    (sym c.in-Some-clause_at-2.ensures.value) (c.resolve.ensures.no c.if-not-resolve.true)

pub loop-number-preserved : goal.loop-number-preserved
loop-number-preserved c =
    reaching_next _ _ _ c.loop-number.number-index _ _ _ _ (omega arith) refl c.loop-number.invariant
    (sym c.in-Some-clause_at-2.ensures.value) (c.resolve.ensures.yes c.if-not-resolve.false)

pub returns-clause-yes : goal.returns-clause-yes
returns-clause-yes c = λ _. reaching_end _ _ _ c.loop-number.number-index _ (omega arith) c.loop-number.invariant
