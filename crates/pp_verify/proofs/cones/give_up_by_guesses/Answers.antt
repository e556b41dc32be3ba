use Rattle.std.proofs.Common.{◌+◌, Bool, List, length, ap, arith, subst, sym}
use Rattle.pp_prog.specs.declared.check.Check.{Check}
use Rattle.pp_sound.proofs.Owners.{owner_within}
use Rattle.pp_verify.specs.GivenUp.{GivesUpOthers, HasNoGuess}
use Rattle.pp_verify.proofs.Ends.{check_at}
use Rattle.pp_verify.proofs.Others.{all_passed, none_yet, one_more, one_passed}
use Rattle.pp_verify.proofs.cones.give_up_by_guesses.Goals as goal
use Rattle.pp_verify.proofs.cones.give_up_by_guesses.Goals.{then-is_asked+in_ok-refuted, else-is_asked}

pub loop-c-init : goal.loop-c-init
loop-c-init c =
    none_yet c.args.program.now c.args.ends.now (HasNoGuess c.args.program.now c.args.limits) c.args.given_up.now
    c.requires.marks

pub give_up_unless-requires-clause-function : goal.give_up_unless-requires-clause-function
give_up_unless-requires-clause-function c =
    owner_within c.args.program.now _ c.loop-c.c
    (check_at c.args.program.now c.checks-checks.result.now c.loop-c.c _ c.checks-checks.ensures.all
    (omega (arith, c.loop-c-test.true)))

pub loop-c-preserved : goal.loop-c-preserved
loop-c-preserved c =
    let p = c.args.program.now in
    let n = c.loop-c.c in
    let own = check_at p c.checks-checks.result.now n _ c.checks-checks.ensures.all (omega (arith, c.loop-c-test.true))
    in
    let asks = rw c.as_slice.ensures at c.is_asked.ensures in
    elim c.if-is_asked.branch [
      | then-is_asked+in_ok-refuted w ↦
          subst (λ (l : List Bool). GivesUpOthers p c.args.ends.now (HasNoGuess p c.args.limits) (n + 1)
          c.args.given_up.now l) (sym w.given_up-is)
          (one_more p c.args.ends.now (HasNoGuess p c.args.limits) c.args.given_up.now n _ c.loop-c.given_up
          c.loop-c.invariant own w.in_ok-refuted.refuted w.give_up_unless.new.marks w.give_up_unless.ensures
          (λ told end at large. w.in_ok-refuted.ensures told _ own))
      | else-is_asked w ↦
          subst (λ (l : List Bool). GivesUpOthers p c.args.ends.now (HasNoGuess p c.args.limits) (n + 1)
          c.args.given_up.now l) (sym w.given_up-is)
          (one_passed p c.args.ends.now (HasNoGuess p c.args.limits) c.args.given_up.now n _ c.loop-c.given_up
          c.loop-c.invariant own (λ asked. let told = asks.1 asked in let off = w.if-is_asked.false in cc)
          (λ end small large. absurd (small large)))
    ]

pub returns : goal.returns
returns c =
    all_passed c.args.program.now c.args.ends.now (HasNoGuess c.args.program.now c.args.limits) c.args.given_up.now
    c.loop-c.c c.loop-c.given_up
    (omega (arith, c.loop-c-test.false, ap (λ (l : List Check). length l) c.checks-checks.ensures.all))
    c.loop-c.invariant
