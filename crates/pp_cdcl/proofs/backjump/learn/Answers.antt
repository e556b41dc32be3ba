use Rattle.std.proofs.Common.{◌≡◌, List, sym, subst, ap, ◌∙◌, arith, length}
use Rattle.pp_clause.specs.declared.log.Lemma.{Lemma}
use Rattle.pp_trail.specs.declared.step.Step.{Step}
use Rattle.pp_clause.specs.Bound.{IsUpTo}
use Rattle.pp_trail.specs.Trail.{Trail}
use Rattle.pp_cdcl.specs.Invariant.{NoDecision}
use Rattle.pp_cdcl.proofs.Learning.{learnt_up_to}
use Rattle.pp_cdcl.proofs.Moves.{spends_all, goes_learnt, cut_and_added}
use Rattle.pp_cdcl.proofs.backjump.learn.Goals as goal

pub returns-then-lemmas-problem : goal.returns-then-lemmas-problem
returns-then-lemmas-problem c =
    let len = ap length c.as_slice-lemmas.ensures.value in
    let full = c.if-lemmas-problem.true in
    rw c.take_log.ensures.log
    (spends_all _ _ _ c.args.search.now.watch c.args.search.now.log c.args.search.now.base c.args.lemma c.args.back
    c.push.new.self
    c.requires.invariant c.requires.lemma c.in_ok-push.ensures.ok (sym len ∙ full) c.as_slice-lemmas.ensures.lemmas)

pub add-requires-clause-up_to : goal.add-requires-clause-up_to
add-requires-clause-up_to c =
    let vars : c.backjump.new.search.watch.vars ≡ c.args.search.now.watch.vars =
    ap (λ (t : Trail). t.vars) c.in_ok-backjump.ensures.watch in
    let up : IsUpTo c.args.search.now.watch.vars c.args.lemma.clause =
    learnt_up_to _ _ _ c.args.lemma.clause c.trail.ensures.trail c.requires.lemma.learnt.negated in
    rw (c.in_ok-clause.ensures, vars) up

pub returns : goal.returns
returns c =
    let len = ap length c.as_slice-lemmas.ensures.value in
    let open_left : length c.push.new.self ≡ c.args.problem.lemmas → ⊥ = λ e. c.if-lemmas-problem.false (len ∙ e) in
    let pushed = c.in_ok-push.ensures.ok in
    goes_learnt _ _ _ c.args.search.now.watch c.args.search.now.log c.args.search.now.base c.args.lemma c.args.back
    c.steps_to_keep-to.result _
    c.requires.invariant c.requires.lemma
    (subst (λ (z : List Lemma). length z ≡ c.args.problem.lemmas → ⊥) pushed open_left)
    (omega (arith, c.steps_to_keep-to.ensures.within, ap length c.trail.ensures.value))
    (subst (λ (z : List Step). NoDecision z c.args.back c.steps_to_keep-to.result) c.trail.ensures.value
    c.steps_to_keep-to.ensures.none)
    (cut_and_added c.args.search.now.watch c.backjump.new.search.watch c.add.new.self c.steps_to_keep-to.result
    c.args.lemma.clause c.in_ok-clause.clause
    c.in_ok-backjump.ensures.watch c.in_ok-add.ensures.ok c.in_ok-clause.ensures)
    (c.in_ok-backjump.ensures.log ∙ pushed) c.in_ok-backjump.ensures.base
    (c.in_ok-backjump.ensures.analysis ∙ c.requires.sized)
