use Rattle.std.proofs.Common.{arith}
use Rattle.pp_gate.proofs.Clausal.{marked_turn}
use Rattle.pp_gate.proofs.circuit.Circuit.marked_clauses.Goals as goal

pub loop-i-preserved : goal.loop-i-preserved
loop-i-preserved c = record {
  count = omega (arith, c.in_ok-add_marked.ensures.most, c.loop-i.invariant.count);
  value = λ s. marked_turn s _ _ _ _ _ _ c.loop-i-test.true c.index-gates-i.is c.in_ok-add_marked.ensures.marked
      c.in_ok-add_marked.ensures.unmarked (c.loop-i.invariant.value s);
  shape = c.in_ok-add_marked.ensures.within _ c.loop-i-test.true c.loop-i.invariant.shape;
}
