use Rattle.std.proofs.Common.{List, length, ap, refl, arith}
use Rattle.pp_prog.specs.declared.check.Check.{Check}
use Rattle.pp_verify.proofs.Ends.{check_at}
use Rattle.pp_turns.proofs.FirstTurns.{none_first, one_more_first}
use Rattle.pp_turns.proofs.starting.first_turns.Goals as goal

pub loop-c-init : goal.loop-c-init
loop-c-init c = none_first c.args.program.now c.new-turns.result c.new-turns.ensures

pub loop-c-preserved : goal.loop-c-preserved
loop-c-preserved c =
    one_more_first c.args.program.now c.loop-c.c c.loop-c.turns c.push.new.self _ c.loop-c.invariant
    c.in_ok-push.ensures.ok
    (record {
      own = check_at c.args.program.now c.checks-checks.result.now c.loop-c.c _ c.checks-checks.ensures.all
          (omega (arith, c.loop-c-test.true));
      check = refl;
      round = refl;
      unended = refl;
    })

pub returns-clause-size : goal.returns-clause-size
returns-clause-size c =
    omega (
      arith,
      c.loop-c.invariant.size,
      c.loop-c-test.false,
      ap (λ (l : List Check). length l) c.checks-checks.ensures.all,
    )

pub returns-clause-first : goal.returns-clause-first
returns-clause-first c = c.loop-c.invariant.first
