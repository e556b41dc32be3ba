use Rattle.std.proofs.Common.{arith}
use Rattle.pp_checks.proofs.Ruling.{first_fault, keep_more}
use Rattle.pp_checks.proofs.rules.check_rules.Goals as goal

pub loop-f-preserved : goal.loop-f-preserved
loop-f-preserved c =
    keep_more c.args.program.now.types c.args.program.now.functions c.loop-f.f c.function.result.now
    c.function.ensures c.loop-f.invariant c.in-Ok.ensures

pub returns-in-Err : goal.returns-in-Err
returns-in-Err c =
    first_fault c.args.program.now.types c.args.program.now.functions c.in-Err.fault c.loop-f.f
    c.function.result.now c.function.ensures c.loop-f.invariant c.in-Err.ensures

pub returns : goal.returns
returns c f function lt is = c.loop-f.invariant f function (omega (
  arith,
  lt,
  c.loop-f-test.false,
  c.function_count-f-end.ensures,
)) is
