use Rattle.std.proofs.Common.{List, length, ap, arith}
use Rattle.pp_prog.specs.declared.check.Check.{Check}
use Rattle.pp_sound.proofs.Owners.{owner_within}
use Rattle.pp_verify.specs.GivenUp.{HasHope}
use Rattle.pp_verify.proofs.Ends.{check_at}
use Rattle.pp_verify.proofs.Others.{all_passed, at_end, none_yet, one_more}
use Rattle.pp_verify.proofs.cones.give_up_by_ends.Goals as goal

pub loop-c-init : goal.loop-c-init
loop-c-init c =
    none_yet c.args.program.now c.args.ends.now (HasHope c.args.program.now c.args.limits) c.args.given_up.now
    c.requires.marks

pub bounds-ends-c : goal.bounds-ends-c
bounds-ends-c c =
    omega (
      arith,
      c.loop-c-test.true,
      c.requires.size,
      ap (λ (l : List Check). length l) c.checks-checks.ensures.all,
    )

pub give_up_unless-requires-clause-function : goal.give_up_unless-requires-clause-function
give_up_unless-requires-clause-function c =
    owner_within c.args.program.now _ c.loop-c.c
    (check_at c.args.program.now c.checks-checks.result.now c.loop-c.c _ c.checks-checks.ensures.all
    (omega (arith, c.loop-c-test.true)))

pub loop-c-preserved : goal.loop-c-preserved
loop-c-preserved c =
    let p = c.args.program.now in
    let ends = c.args.ends.now in
    let n = c.loop-c.c in
    let own = check_at p c.checks-checks.result.now n _ c.checks-checks.ensures.all (omega (arith, c.loop-c-test.true))
    in
    let size = ap (λ (l : List Check). length l) c.checks-checks.ensures.all in
    one_more p ends (HasHope p c.args.limits) c.args.given_up.now n _ c.loop-c.given_up c.loop-c.invariant own
    c.has_hope-hope.result c.give_up_unless.new.marks c.give_up_unless.ensures
    (λ hoped. at_end ends n c.index-ends-c.result (omega (arith, c.loop-c-test.true, c.requires.size, size))
    c.index-ends-c.is (HasHope p c.args.limits _ (record { 0 = n }))
    (c.has_hope-hope.ensures p c.requires.plan (owner_within p _ n own) hoped (record { 0 = n })))

pub returns : goal.returns
returns c =
    all_passed c.args.program.now c.args.ends.now (HasHope c.args.program.now c.args.limits) c.args.given_up.now
    c.loop-c.c c.loop-c.given_up
    (omega (arith, c.loop-c-test.false, ap (λ (l : List Check). length l) c.checks-checks.ensures.all))
    c.loop-c.invariant
