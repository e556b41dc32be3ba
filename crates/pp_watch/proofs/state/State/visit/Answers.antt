use Rattle.std.proofs.Common.{arith, subst, ℕ, ◌≡◌}
use Rattle.pp_clause.specs.Literal.{opposite}
use Rattle.pp_watch.specs.Looking.{AreLookedAt}
use Rattle.pp_watch.proofs.States.{has_grown}
use Rattle.pp_watch.proofs.Looked.{advances_none, advances_along, looked_all}
use Rattle.pp_watch.proofs.state.State.visit.Goals as goal

pub loop-place-init : goal.loop-place-init
loop-place-init c = record {
  advances = advances_none c.args.self.now c.requires.sound;
  looked = looked_all c.args.self.now c.args.lit c.count-place.result c.requires.sound c.count-place.ensures;
  within = omega (arith, c.count-place.ensures);
  negated = c.requires.negated;
}

pub loop-place-preserved : goal.loop-place-preserved
loop-place-preserved c =
    let next = c.in_ok-number.ensures.advances in
    record {
      advances = advances_along c.args.self.now c.loop-place.self c.look.new.self c.loop-place.invariant.advances
          next;
      looked = rw c.in_default.is at c.in_ok-number.ensures.looked;
      within = rw c.in_default.is at c.in_ok-number.ensures.within;
      negated = has_grown c.loop-place.self.trail c.look.new.self.trail
          (opposite c.args.lit) next.grows c.loop-place.invariant.negated;
    }

pub returns-clause-looked : goal.returns-clause-looked
returns-clause-looked c = subst (λ (n : ℕ). AreLookedAt c.loop-place.self c.args.lit n)
    (let e : c.loop-place.place ≡ 0 = omega (arith, c.loop-place-test.false) in e) c.loop-place.invariant.looked

pub returns-in-Some-clause-advances : goal.returns-in-Some-clause-advances
returns-in-Some-clause-advances c =
    advances_along c.args.self.now c.loop-place.self c.look.new.self c.loop-place.invariant.advances
    c.in_ok-number.ensures.advances
