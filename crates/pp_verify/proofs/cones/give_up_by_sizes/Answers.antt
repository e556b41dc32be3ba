use Rattle.std.proofs.Common.{◌+◌, Bool, List, length, ap, arith, subst, sym}
use Rattle.std.specs.Prelude.{nat_lt}
use Rattle.std.proofs.lemmas.Bool.{ltb-true}
use Rattle.pp_prog.specs.declared.check.Check.{Check}
use Rattle.pp_sound.proofs.Owners.{owner_within}
use Rattle.pp_estimate.specs.Shared.{AreOf}
use Rattle.pp_induct.specs.declared.limits.TheConstants.{FRONTED_ABOVE}
use Rattle.pp_verify.specs.GivenUp.{GivesUpOthers, HasTriedSize}
use Rattle.pp_verify.proofs.Ends.{check_at}
use Rattle.pp_verify.proofs.Fronted.{round_few, tried_last}
use Rattle.pp_verify.proofs.Others.{all_passed, none_yet, one_more, one_passed}
use Rattle.pp_verify.proofs.cones.give_up_by_sizes.Goals as goal
use Rattle.pp_verify.proofs.cones.give_up_by_sizes.Goals.{then-is_asked+in_ok-size, else-is_asked}

pub loop-c-init : goal.loop-c-init
loop-c-init c = record {
  others = none_yet c.args.program.now c.args.ends.now (HasTriedSize c.args.program.now c.args.limits)
      c.args.given_up.now c.requires.marks;
  estimates = c.in_ok-estimates.ensures c.args.program.now;
}

pub give_up_unless-requires-clause-function : goal.give_up_unless-requires-clause-function
give_up_unless-requires-clause-function c =
    owner_within c.args.program.now _ c.loop-c.c
    (check_at c.args.program.now c.checks-checks.result.now c.loop-c.c _ c.checks-checks.ensures.all
    (omega (arith, c.loop-c-test.true)))

pub bounds-ends-c : goal.bounds-ends-c
bounds-ends-c c =
    omega (
      arith,
      c.loop-c-test.true,
      c.requires.size,
      ap (λ (l : List Check). length l) c.checks-checks.ensures.all,
    )

pub round_after-round-requires : goal.round_after-round-requires
round_after-round-requires c =
    let asks = rw c.as_slice.ensures at c.is_asked.ensures in
    let size = ap (λ (l : List Check). length l) c.checks-checks.ensures.all in
    round_few c.args.program.now c.args.limits c.args.ends.now c.requires.ends c.loop-c.c
    (omega (arith, c.loop-c-test.true, size)) c.index-ends-c.result
    (omega (arith, c.loop-c-test.true, c.requires.size, size)) c.index-ends-c.is (asks.0 c.if-is_asked.true).0
    c.requires.limits

pub of-requires-clause-round : goal.of-requires-clause-round
of-requires-clause-round c =
    let asks = rw c.as_slice.ensures at c.is_asked.ensures in
    let size = ap (λ (l : List Check). length l) c.checks-checks.ensures.all in
    let few = round_few c.args.program.now c.args.limits c.args.ends.now c.requires.ends c.loop-c.c
    (omega (arith, c.loop-c-test.true, size)) c.index-ends-c.result
    (omega (arith, c.loop-c-test.true, c.requires.size, size)) c.index-ends-c.is (asks.0 c.if-is_asked.true).0
    c.requires.limits in
    omega (arith, few, c.round_after-round.ensures)

pub loop-c-preserved : goal.loop-c-preserved
loop-c-preserved c =
    let p = c.args.program.now in
    let n = c.loop-c.c in
    let own = check_at p c.checks-checks.result.now n _ c.checks-checks.ensures.all (omega (arith, c.loop-c-test.true))
    in
    let asks = rw c.as_slice.ensures at c.is_asked.ensures in
    let size = ap (λ (l : List Check). length l) c.checks-checks.ensures.all in
    elim c.if-is_asked.branch [
      | then-is_asked+in_ok-size w ↦ record {
        others = subst (λ (l : List Bool). GivesUpOthers p c.args.ends.now (HasTriedSize p c.args.limits) (n + 1)
            c.args.given_up.now l) (sym w.given_up-is)
            (one_more p c.args.ends.now (HasTriedSize p c.args.limits) c.args.given_up.now n _ c.loop-c.given_up
            c.loop-c.invariant.others own (nat_lt FRONTED_ABOVE w.in_ok-size.size) w.give_up_unless.new.marks
            w.give_up_unless.ensures
            (λ told end at large. tried_last p c.args.limits c.args.ends.now c.requires.ends n
            (omega (arith, c.loop-c-test.true, size)) w.index-ends-c.result
            (omega (arith, c.loop-c-test.true, c.requires.size, size)) w.index-ends-c.is
            (asks.0 w.if-is_asked.true).0 _ w.round_after-round.result w.in_ok-size.size w.round_after-round.ensures
            w.in_ok-size.ensures.estimate (ltb-true FRONTED_ABOVE w.in_ok-size.size told)));
        estimates = subst (AreOf p) (sym w.estimates-is) w.in_ok-size.ensures.estimates;
      }
      | else-is_asked w ↦ record {
        others = subst (λ (l : List Bool). GivesUpOthers p c.args.ends.now (HasTriedSize p c.args.limits) (n + 1)
            c.args.given_up.now l) (sym w.given_up-is)
            (one_passed p c.args.ends.now (HasTriedSize p c.args.limits) c.args.given_up.now n _ c.loop-c.given_up
            c.loop-c.invariant.others own (λ asked. let told = asks.1 asked in let off = w.if-is_asked.false in cc)
            (λ end small large. absurd (small large)));
        estimates = subst (AreOf p) (sym w.estimates-is) c.loop-c.invariant.estimates;
      }
    ]

pub returns : goal.returns
returns c =
    all_passed c.args.program.now c.args.ends.now (HasTriedSize c.args.program.now c.args.limits) c.args.given_up.now
    c.loop-c.c c.loop-c.given_up
    (omega (arith, c.loop-c-test.false, ap (λ (l : List Check). length l) c.checks-checks.ensures.all))
    c.loop-c.invariant.others
