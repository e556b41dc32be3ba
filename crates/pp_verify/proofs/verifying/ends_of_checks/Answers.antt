use Rattle.std.proofs.Common.{arith}
use Rattle.pp_verify.proofs.Ends.{check_at, no_ends, one_more_end}
use Rattle.pp_verify.proofs.verifying.ends_of_checks.Goals as goal

pub loop-c-init : goal.loop-c-init
loop-c-init c = record {
  ends = no_ends c.args.program.now c.args.limits c.new-ends.result c.new-ends.ensures;
  shared = c.new-shared.ensures c.args.program.now c.args.limits 0;
}

pub end_of_check-requires-clause-check : goal.end_of_check-requires-clause-check
end_of_check-requires-clause-check c =
    check_at c.args.program.now c.checks-checks.result.now c.loop-c.c _ c.checks-checks.ensures.all
    (omega (arith, c.loop-c-test.true))

pub end_of_check-requires-clause-shared : goal.end_of_check-requires-clause-shared
end_of_check-requires-clause-shared c =
    c.turn_to.ensures c.args.program.now c.args.limits c.loop-c.invariant.shared

pub loop-c-preserved : goal.loop-c-preserved
loop-c-preserved c =
    let own = check_at c.args.program.now c.checks-checks.result.now c.loop-c.c _ c.checks-checks.ensures.all
    (omega (arith, c.loop-c-test.true)) in
    record {
      ends = one_more_end c.args.program.now c.args.limits c.loop-c.c _ c.loop-c.ends c.push.new.self _
          c.loop-c.invariant.ends own c.in_ok-end_of_check.ensures.end c.in_ok-push.ensures.ok;
      shared = c.in_ok-end_of_check.ensures.shared;
    }
