use Rattle.std.proofs.Common.{sym, ◌∙◌, subst, ℕ}
use Rattle.pp_trail.specs.Trail.{IsPlaceOf}
use Rattle.pp_watch.proofs.Literals.{bound_at}
use Rattle.pp_watch.proofs.finding.bound.Goals as goal

pub returns-in-Some-clause-some : goal.returns-in-Some-clause-some
returns-in-Some-clause-some c = bound_at _ _ c.args.trail.now.steps c.args.head.now c.in-Some.place
    c.place.ensures.trail
    (subst (λ (x : ℕ). IsPlaceOf c.args.trail.now.steps x c.in-Some.place) c.var.ensures.value c.in-Some.ensures.some)
    (sym c.is_false.ensures ∙ c.if-not-is_false.false)
    (λ e. c.if-index.false (c.index.ensures ∙ e ∙ sym c.index-2.ensures))
