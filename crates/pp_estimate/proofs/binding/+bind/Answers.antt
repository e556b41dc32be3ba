use Rattle.std.proofs.Common.{◌≡◌, ◌++◌, ◌∙◌, ◌∷◌, [], List, ℕ, OnOk, take, length, refl, sym, ap, subst}
use Rattle.std.proofs.lemmas.List.{append-nil}
use Rattle.pp_estimate.specs.declared.shape.Shape.{Shape}
use Rattle.pp_estimate.specs.Visits.{bound, pattern_events}
use Rattle.pp_estimate.proofs.Bound.{bind_here, bind_more, bind_past, events_more}
use Rattle.pp_estimate.proofs.binding.+bind.Goals as goal

taken : (xs ys : List Shape) → take (length xs) (xs ++ ys) ≡ xs
taken [] ys = refl
taken (x ∷ xs) ys = ap (λ (l : List Shape). x ∷ l) (taken xs ys)

pub bind_all-loop-i-preserved : goal.bind_all-loop-i-preserved
bind_all-loop-i-preserved t c = record {
  bound = bind_more c.args.whole (bound c.args.ctors.now) c.args.patterns.now c.args.sorts.now c.loop-i.i
      c.index-patterns-i.result c.args.env.now c.loop-i.env c.bind_at.new.env c.loop-i-test.true c.index-patterns-i.is
      c.loop-i.invariant.bound c.in_ok-bind_at.ensures.bound;
  counts = events_more (pattern_events c.args.ctors.now) c.args.patterns.now c.loop-i.i c.index-patterns-i.result
      c.args.counts.now c.loop-i.counts c.bind_at.new.counts c.loop-i-test.true c.index-patterns-i.is
      c.loop-i.invariant.counts c.in_ok-bind_at.ensures.counted;
}

pub bind_at-returns-in-Some-clause-bound : goal.bind_at-returns-in-Some-clause-bound
bind_at-returns-in-Some-clause-bound t c =
    subst (λ (l : List Shape). OnOk c.bind-in-Some.result (c.bind-in-Some.new.env ≡ c.args.env.now ++ l))
    (ap (bound c.args.ctors.now c.args.pattern.now) c.part_of.ensures
    ∙ sym (bind_here c.args.whole (bound c.args.ctors.now c.args.pattern.now) c.args.sorts.now c.args.i
    c.in-Some.s.now (sym c.in-Some.ensures))) c.bind-in-Some.ensures.bound

pub bind_at-returns-in_ok-bind-in-None-clause-bound : goal.bind_at-returns-in_ok-bind-in-None-clause-bound
bind_at-returns-in_ok-bind-in-None-clause-bound t c =
    let past = bind_past c.args.whole (bound c.args.ctors.now c.args.pattern.now) c.args.sorts.now c.args.i
    (sym c.in-None.ensures) in
    c.truncate.ensures ∙ ap (take c.len-depth.result) c.in_ok-bind-in-None.ensures.bound
    ∙ ap (λ (n : ℕ). take n (c.args.env.now ++ bound c.args.ctors.now c.args.pattern.now c.args.whole))
    c.len-depth.ensures ∙ taken c.args.env.now (bound c.args.ctors.now c.args.pattern.now c.args.whole)
    ∙ sym (append-nil c.args.env.now) ∙ ap (λ (l : List Shape). c.args.env.now ++ l) (sym past)
