use Rattle.std.proofs.Common.{arith}
use Rattle.std.proofs.lemmas.Grind.{common_steps}
use Rattle.pp_gate.proofs.Extension.{completed_next, completed_all}
use Rattle.pp_gate.proofs.Places.{at_read}
use Rattle.pp_gate.proofs.circuit.Circuit.complete.Goals as goal

pub loop-i-preserved : goal.loop-i-preserved
loop-i-preserved c =
    let now = c.loop-i.invariant in
    let value = rw c.deref.ensures.value at c.value_of-value.ensures in
    record {
      len = omega (arith, c.in_ok-push.ensures.len, now.len);
      completed = completed_next _ _ _ _ _ _ _ c.as_slice-gates.ensures.circuit
          (at_read c.as_slice-gates.result.now _ _ c.loop-i-test.true c.index-gates-i.is) now.len value
          c.in_ok-push.ensures.items now.completed;
    }

pub returns : goal.returns
returns c =
    let all = completed_all _ _ _ _ c.as_slice-gates.ensures.circuit c.loop-i-test.false c.loop-i.invariant.completed in
    record {
      len = grind (arith, common_steps);
      gives = grind (arith, common_steps, all.0);
      inputs = grind (arith, common_steps, all.1);
    }
