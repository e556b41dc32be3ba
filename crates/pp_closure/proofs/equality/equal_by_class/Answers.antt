use Rattle.std.proofs.Common.{subst}
use Rattle.pp_closure.specs.Facts.{Tells}
use Rattle.pp_closure.proofs.Equals.{are_one, both_true, never}
use Rattle.pp_closure.proofs.equality.equal_by_class.Goals as goal

pub returns-then-excludes : goal.returns-then-excludes
returns-then-excludes c v a b holds =
    never _ _ (λ e. c.excludes.ensures v.values (v.values c.args.b) c.if-excludes.true
    (subst (Tells v.values c.known-one.result) e (c.known-one.ensures v.values holds))
    (c.known-other.ensures v.values holds))

pub returns-then-is-2 : goal.returns-then-is-2
returns-then-is-2 c v a b holds =
    both_true _ _ (c.is.ensures v.values holds c.if-is.true) (c.is-then-is.ensures v.values holds c.if-is-2.true)

pub returns-then-are_false : goal.returns-then-are_false
returns-then-are_false c v a b holds = are_one _ _ (c.are_false.ensures v a b holds c.if-are_false.true)
