use Rattle.std.proofs.Common.{◌≡◌, List, OnOk, sym, ap, subst}
use Rattle.pp_estimate.specs.Counted.{counted}
use Rattle.pp_estimate.specs.Events.{Event}
use Rattle.pp_estimate.proofs.Bound.{compare_here, compare_past}
use Rattle.pp_estimate.proofs.comparing.compare_at.Goals as goal

pub returns-in-None-clause-counted : goal.returns-in-None-clause-counted
returns-in-None-clause-counted c =
    sym (ap (counted c.args.counts.now) (compare_past c.args.types.now c.args.new c.args.old.now c.args.i
    (sym c.in-None.ensures)))

pub returns-in-Some-clause-counted : goal.returns-in-Some-clause-counted
returns-in-Some-clause-counted c =
    subst (λ (es : List Event). OnOk c.compare_one.result (c.compare_one.new.counts ≡ counted c.args.counts.now es))
    (sym (compare_here c.args.types.now c.args.new c.args.old.now c.args.i c.in-Some.old.now
    (sym c.in-Some.ensures))) c.compare_one.ensures.counted
