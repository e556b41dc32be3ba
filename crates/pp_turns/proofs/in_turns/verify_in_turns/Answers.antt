use Rattle.std.proofs.Common.{◌∙◌, [], ap, arith}
use Rattle.pp_induct.specs.declared.limits.Limits.{Limits}
use Rattle.pp_turns.proofs.Passing.{none_named, passed_enough}
use Rattle.pp_turns.proofs.in_turns.verify_in_turns.Goals as goal

pub loop-pass-init : goal.loop-pass-init
loop-pass-init c = record {
  turns = c.in_ok-turns.ensures.turns;
  limits = c.in_ok-turns.ensures.limits;
  named = none_named c.args.program.now [] c.in_ok-turns.turns.checks c.in_ok-turns.ensures.turned;
}

pub loop-pass-preserved : goal.loop-pass-preserved
loop-pass-preserved c = record {
  turns = c.in_ok-turns-2.ensures.turns;
  limits = c.in_ok-turns-2.ensures.limits ∙ c.loop-pass.invariant.limits;
  named = c.in_ok-turns-2.ensures.named c.loop-pass._pass c.loop-pass.invariant.named;
}

pub finish-requires-clause-ended : goal.finish-requires-clause-ended
finish-requires-clause-ended c =
    passed_enough c.args.program.now c.loop-pass._pass c.loop-pass.turns c.loop-pass.invariant.turns
    (omega (arith, c.loop-pass-test.false, ap (λ (l : Limits). l.rounds) c.loop-pass.invariant.limits))
    c.loop-pass.invariant.named

pub returns-clause-report : goal.returns-clause-report
returns-clause-report c = rw c.loop-pass.invariant.limits at c.finish.ensures.report
