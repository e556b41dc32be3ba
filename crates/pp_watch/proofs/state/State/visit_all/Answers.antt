use Rattle.std.proofs.Common.{arith, sym, ap, ◌≡◌, ◌∙◌, ◌<◌, length, get_or, List}
use Rattle.pp_trail.specs.declared.step.Step.{Step}
use Rattle.pp_clause.specs.Literal.{opposite}
use Rattle.pp_watch.proofs.States.{grows_along}
use Rattle.pp_watch.proofs.Looked.{trail_code}
use Rattle.pp_watch.proofs.Visited.{negated_step, visit_done, visits_fewer}
use Rattle.pp_watch.proofs.state.State.visit_all.Goals as goal

pub visit-requires-clause-negated : goal.visit-requires-clause-negated
visit-requires-clause-negated c =
    let lt : c.loop-self.self.visited < length c.loop-self.self.trail.steps =
    (let l = ap length c.steps.ensures.value in omega (arith, c.loop-self-test.true)) in
    let is : c.index-steps-self.result ≡ get_or c.loop-self.self.trail.steps c.loop-self.self.visited
    c.index-steps-self.result = c.index-steps-self.is ∙ ap
    (λ (z : List Step). get_or z c.loop-self.self.visited c.index-steps-self.result)
    c.steps-in-loop-self.ensures.value in
    negated_step c.loop-self.self.trail.steps c.loop-self.self.visited c.index-steps-self.result
    c.negated-lit.result lt is (c.negated-lit.ensures ∙ ap (λ (z : Step). opposite z.lit)
    (sym c.index-steps-self.is))

pub visit-requires-clause-listed : goal.visit-requires-clause-listed
visit-requires-clause-listed c =
    trail_code c.loop-self.self c.negated-lit.result c.steps.ensures.trail c.loop-self.invariant.sound
    (visit-requires-clause-negated c)

pub returns-in-Some-clause-grows : goal.returns-in-Some-clause-grows
returns-in-Some-clause-grows c = grows_along c.args.self.now.trail c.loop-self.self.trail c.visit.new.self.trail
    c.loop-self.invariant.grows c.in_ok-number.ensures.advances.grows

pub loop-self-preserved : goal.loop-self-preserved
loop-self-preserved c =
    let lt : c.loop-self.self.visited < length c.loop-self.self.trail.steps =
    (let l = ap length c.steps.ensures.value in omega (arith, c.loop-self-test.true)) in
    let is : c.index-steps-self.result ≡ get_or c.loop-self.self.trail.steps c.loop-self.self.visited
    c.index-steps-self.result = c.index-steps-self.is ∙ ap
    (λ (z : List Step). get_or z c.loop-self.self.visited c.index-steps-self.result)
    c.steps-in-loop-self.ensures.value in
    let next = c.in_ok-number.ensures.advances in
    record {
      grows = grows_along c.args.self.now.trail c.loop-self.self.trail c.visit.new.self.trail
          c.loop-self.invariant.grows next.grows;
      sound = visit_done c.loop-self.self c.visit.new.self c.index-steps-self.result c.negated-lit.result next lt
          is (c.negated-lit.ensures ∙ ap (λ (z : Step). opposite z.lit) (sym c.index-steps-self.is))
          (rw c.in_default.is at c.in_ok-number.ensures.looked);
      heads = next.heads ∙ c.loop-self.invariant.heads;
    }

pub loop-self-smaller : goal.loop-self-smaller
loop-self-smaller c =
    let lt : c.loop-self.self.visited < length c.loop-self.self.trail.steps =
    (let l = ap length c.steps.ensures.value in omega (arith, c.loop-self-test.true)) in
    visits_fewer c.loop-self.self c.visit.new.self c.in_ok-number.ensures.advances c.steps.ensures.trail lt
