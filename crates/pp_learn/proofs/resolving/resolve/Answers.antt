use Rattle.std.proofs.Common.{◌≡◌, arith, sym, ap, ◌∙◌}
use Rattle.pp_trail.specs.declared.step.Step.{Step}
use Rattle.pp_learn.proofs.Places.{read_at}
use Rattle.pp_learn.proofs.Reasons.{trail_fits}
use Rattle.pp_learn.proofs.Turning.{resolved_reaches, resolved_turns}
use Rattle.pp_learn.proofs.resolving.resolve.Goals as goal

pub returns-clause-reached : goal.returns-clause-reached
returns-clause-reached c =
    let at = read_at c.args.trail.now c.args.place c.index-trail-place.result c.requires.within
    c.index-trail-place.is in
    let fit = (trail_fits c.args.clauses.now c.args.trail.now c.args.seen.now c.requires.trail).fit c.args.place
    c.index-trail-place.result at in
    let var : c.var.result ≡ c.index-trail-place.result.lit.var =
    c.var.ensures.value ∙ ap (λ (z : Step). z.lit.var) (sym c.index-trail-place.is) in
    resolved_reaches c.args.clauses.now c.args.trail.now c.args.seen.now c.mark_all.new.seen c.args.chain.now.items
    c.push.new.self.items c.args.place c.args.reason c.var.result c.reason_of-clause.result.now
    c.index-trail-place.result
    c.reason_of-clause.ensures.forces c.requires.trail c.requires.reached c.requires.marked c.in_ok-mark_all.ensures.all
    (omega arith) at var (omega arith) c.in_ok-push.ensures.items

pub returns-clause-turns : goal.returns-clause-turns
returns-clause-turns c =
    let at = read_at c.args.trail.now c.args.place c.index-trail-place.result c.requires.within
    c.index-trail-place.is in
    let fit = (trail_fits c.args.clauses.now c.args.trail.now c.args.seen.now c.requires.trail).fit c.args.place
    c.index-trail-place.result at in
    let var : c.var.result ≡ c.index-trail-place.result.lit.var =
    c.var.ensures.value ∙ ap (λ (z : Step). z.lit.var) (sym c.index-trail-place.is) in
    resolved_turns c.args.clauses.now c.args.trail.now c.args.seen.now c.mark_all.new.seen c.args.place c.args.reason
    c.var.result c.reason_of-clause.result.now c.index-trail-place.result
    c.reason_of-clause.ensures.forces c.requires.trail c.in_ok-mark_all.ensures.all (omega arith) at var (omega arith)
