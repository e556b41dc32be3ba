use Rattle.std.proofs.Common.{ℕ, ◌≡◌, ◌-◌, length, refl, sym, ap, ◌∙◌, subst, arith}
use Rattle.pp_clause.specs.Literal.{opposite}
use Rattle.pp_trail.specs.declared.step.Step.{Step}
use Rattle.pp_trail.specs.Trail.{IsTrail}
use Rattle.pp_learn.proofs.Reasons.{apart_from, chain_some, chain_numbers}
use Rattle.pp_learn.proofs.Points.{ends_from, stands_from, shown_negated, ends_held, ends_open, ends_back, ends_new}
use Rattle.pp_learn.proofs.FirstPoint.{reaches_first}
use Rattle.pp_learn.proofs.work.Work.learn.Goals as goal

pub lemma_of-requires-clause-apart : goal.lemma_of-requires-clause-apart
lemma_of-requires-clause-apart c = apart_from c.args.clauses.now (length c.args.self.now.seen.items - 1)
    c.args.trail.now c.args.trail.now c.requires.trail refl

pub lemma_of-requires-clause-some : goal.lemma_of-requires-clause-some
lemma_of-requires-clause-some c = chain_some _ _ _ _ c.deref-3.result.now c.in_ok-minimize_before.ensures.reached
    c.deref-3.ensures.value

pub lemma_of-requires-clause-numbers : goal.lemma_of-requires-clause-numbers
lemma_of-requires-clause-numbers c = chain_numbers _ _ _ _ c.deref-3.result.now c.in_ok-minimize_before.ensures.reached
    c.deref-3.ensures.value

pub returns-clause-negated : goal.returns-clause-negated
returns-clause-negated c =
    let ends = ends_from c.args.clauses.now (length c.args.self.now.seen.items - 1) c.args.trail.now c.args.trail.now
    c.first_uip.new.seen c.minimize_before.new.seen c.args.start c.in_ok-point.point c.back_to-back.result
    c.in_ok-lemma.lemma.clause
    c.requires.trail refl c.in_ok-point.ensures.point c.in_ok-minimize_before.ensures.keeps c.in_ok-lemma.ensures.shown
    c.back_to-back.ensures in
    shown_negated c.args.trail.now c.minimize_before.new.seen c.in_ok-lemma.lemma.clause ends.shown

pub returns-clause-held : goal.returns-clause-held
returns-clause-held c =
    let ends = ends_from c.args.clauses.now (length c.args.self.now.seen.items - 1) c.args.trail.now c.args.trail.now
    c.first_uip.new.seen c.minimize_before.new.seen c.args.start c.in_ok-point.point c.back_to-back.result
    c.in_ok-lemma.lemma.clause
    c.requires.trail refl c.in_ok-point.ensures.point c.in_ok-minimize_before.ensures.keeps c.in_ok-lemma.ensures.shown
    c.back_to-back.ensures in
    let at = stands_from c.args.trail.now c.args.trail.now c.first_uip.new.seen c.args.start c.in_ok-point.point
    c.index-trail-point.result refl c.in_ok-point.ensures.point c.index-trail-point.is in
    let is : c.negated.result ≡ opposite c.index-trail-point.result.lit =
    c.negated.ensures ∙ ap (λ (z : Step). opposite z.lit) (sym c.index-trail-point.is) in
    ends_held c.args.clauses.now (length c.args.self.now.seen.items - 1) c.args.trail.now c.minimize_before.new.seen
    c.args.start c.in_ok-point.point c.back_to-back.result c.in_ok-lemma.lemma.clause c.index-trail-point.result
    c.negated.result ends at is

pub returns-clause-is_open : goal.returns-clause-is_open
returns-clause-is_open c =
    let ends = ends_from c.args.clauses.now (length c.args.self.now.seen.items - 1) c.args.trail.now c.args.trail.now
    c.first_uip.new.seen c.minimize_before.new.seen c.args.start c.in_ok-point.point c.back_to-back.result
    c.in_ok-lemma.lemma.clause
    c.requires.trail refl c.in_ok-point.ensures.point c.in_ok-minimize_before.ensures.keeps c.in_ok-lemma.ensures.shown
    c.back_to-back.ensures in
    let at = stands_from c.args.trail.now c.args.trail.now c.first_uip.new.seen c.args.start c.in_ok-point.point
    c.index-trail-point.result refl c.in_ok-point.ensures.point c.index-trail-point.is in
    let is : c.negated.result ≡ opposite c.index-trail-point.result.lit =
    c.negated.ensures ∙ ap (λ (z : Step). opposite z.lit) (sym c.index-trail-point.is) in
    ends_open c.args.clauses.now (length c.args.self.now.seen.items - 1) c.args.trail.now c.minimize_before.new.seen
    c.args.start c.in_ok-point.point c.back_to-back.result c.in_ok-lemma.lemma.clause c.index-trail-point.result
    c.negated.result ends at is

pub returns-clause-new : goal.returns-clause-new
returns-clause-new c =
    let ends = ends_from c.args.clauses.now (length c.args.self.now.seen.items - 1) c.args.trail.now c.args.trail.now
    c.first_uip.new.seen c.minimize_before.new.seen c.args.start c.in_ok-point.point c.back_to-back.result
    c.in_ok-lemma.lemma.clause
    c.requires.trail refl c.in_ok-point.ensures.point c.in_ok-minimize_before.ensures.keeps c.in_ok-lemma.ensures.shown
    c.back_to-back.ensures in
    let at = stands_from c.args.trail.now c.args.trail.now c.first_uip.new.seen c.args.start c.in_ok-point.point
    c.index-trail-point.result refl c.in_ok-point.ensures.point c.index-trail-point.is in
    let is : c.negated.result ≡ opposite c.index-trail-point.result.lit =
    c.negated.ensures ∙ ap (λ (z : Step). opposite z.lit) (sym c.index-trail-point.is) in
    ends_new c.args.clauses.now (length c.args.self.now.seen.items - 1) c.args.trail.now c.minimize_before.new.seen
    c.args.start c.in_ok-point.point c.back_to-back.result c.in_ok-lemma.lemma.clause c.index-trail-point.result
    c.negated.result ends at is

pub returns-clause-back : goal.returns-clause-back
returns-clause-back c =
    let ends = ends_from c.args.clauses.now (length c.args.self.now.seen.items - 1) c.args.trail.now c.args.trail.now
    c.first_uip.new.seen c.minimize_before.new.seen c.args.start c.in_ok-point.point c.back_to-back.result
    c.in_ok-lemma.lemma.clause
    c.requires.trail refl c.in_ok-point.ensures.point c.in_ok-minimize_before.ensures.keeps c.in_ok-lemma.ensures.shown
    c.back_to-back.ensures in
    let at = stands_from c.args.trail.now c.args.trail.now c.first_uip.new.seen c.args.start c.in_ok-point.point
    c.index-trail-point.result refl c.in_ok-point.ensures.point c.index-trail-point.is in
    let is : c.negated.result ≡ opposite c.index-trail-point.result.lit =
    c.negated.ensures ∙ ap (λ (z : Step). opposite z.lit) (sym c.index-trail-point.is) in
    ends_back c.args.clauses.now (length c.args.self.now.seen.items - 1) c.args.trail.now c.minimize_before.new.seen
    c.args.start c.in_ok-point.point c.back_to-back.result c.in_ok-lemma.lemma.clause c.index-trail-point.result
    c.negated.result ends at is

pub returns-clause-first : goal.returns-clause-first
returns-clause-first c =
    let long : length c.args.self.now.seen.items ≡ length c.first_uip.new.seen =
    omega (arith, c.first_uip.auto.seen, c.begin.auto.seen, c.as_mut_slice-seen.ensures.len) in
    let trail : IsTrail c.args.clauses.now (length c.first_uip.new.seen - 1) c.args.trail.now =
    subst (λ (n : ℕ). IsTrail c.args.clauses.now (n - 1) c.args.trail.now) long c.requires.trail in
    let at = stands_from c.args.trail.now c.args.trail.now c.first_uip.new.seen c.args.start c.in_ok-point.point
    c.index-trail-point.result refl c.in_ok-point.ensures.point c.index-trail-point.is in
    let is : c.negated.result ≡ opposite c.index-trail-point.result.lit =
    c.negated.ensures ∙ ap (λ (z : Step). opposite z.lit) (sym c.index-trail-point.is) in
    rw (c.in_ok-lemma.ensures.chain, c.deref-3.ensures.value)
    (reaches_first c.args.clauses.now c.args.trail.now c.first_uip.new.seen c.first_uip.new.chain.items
    c.minimize_before.new.chain.items c.args.start c.in_ok-point.point
    c.index-trail-point.result c.negated.result trail c.in_ok-point.ensures.reached c.in_ok-point.ensures.point at is
    c.in_ok-point.ensures.first c.in_ok-minimize_before.ensures.chain)
