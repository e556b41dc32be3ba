use Rattle.std.proofs.Common.{arith}
use Rattle.pp_verify.proofs.GivenUp.{none_are_given_up, never_given_up}
use Rattle.pp_verify.proofs.given_up.none_given_up.Goals as goal

pub returns-clause-marks : goal.returns-clause-marks
returns-clause-marks c =
    let all = c.function_count-function-end.ensures in
    none_are_given_up c.args.program.now c.loop-function._function c.loop-function.marks
    (omega (arith, c.loop-function-test.false, c.loop-function.auto._function-end, all))
    c.loop-function.invariant

pub returns-clause-none : goal.returns-clause-none
returns-clause-none c f = never_given_up c.loop-function._function c.loop-function.marks c.loop-function.invariant f
