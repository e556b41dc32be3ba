use Rattle.std.proofs.Common.{arith, ◌∙◌}
use Rattle.pp_bits.specs.Number.{nat_of}
use Rattle.pp_bits.proofs.Growing.{Gives_old, AddsGates_none, AddsGates_more, AddsGates_weaker}
use Rattle.pp_bits.proofs.Numbers.{nat_of_first, nat_of_next, nat_of_repeated}
use Rattle.pp_bits.proofs.Orders.{equal_turn, equal_repeated}
use Rattle.pp_bits.proofs.order.equal.Goals as goal
use Rattle.pp_bits.proofs.order.equal.Goals.{then-not-is_repeated+in_ok-equal, else-not-is_repeated}

pub loop-i-init : goal.loop-i-init
unfolding nat_of
loop-i-init c = record {
  grown = AddsGates_none _ _ c.truth-equal.ensures.circuit;
  of = c.truth-equal.ensures.stands.of;
  value = c.truth-equal.ensures.stands.value;
}

pub loop-i-preserved : goal.loop-i-preserved
loop-i-preserved c =
    let now = c.loop-i.invariant in
    elim c.if-not-is_repeated.branch [
      | then-not-is_repeated+in_ok-equal w ↦
          let gate = w.in_ok-equal.ensures in
          rw (w.circuit-is, w.equal-is) (record {
            grown = AddsGates_more _ _ _ _ _ _ now.grown gate.adds (omega arith);
            of = gate.stands.of;
            value = λ s gives. gate.stands.value s gives
                ∙ equal_turn _ _ _ _ _ _ _ _ (nat_of_first s _ _ (omega arith)) (nat_of_first s _ _ (omega arith))
                (nat_of_next s _ _ _ _ c.loop-i-test.true w.index-a-i.is)
                (nat_of_next s _ _ _ _ (omega arith) w.index-b-i.is)
                (now.value s (Gives_old _ _ _ gate.adds.grows s gives));
          })
      | else-not-is_repeated w ↦
          let again = c.is_repeated.ensures.0 w.if-not-is_repeated.false in
          rw (w.circuit-is, w.equal-is) (record {
            grown = AddsGates_weaker _ _ _ _ now.grown (omega arith);
            of = now.of;
            value = λ s gives. now.value s gives
                ∙ equal_repeated _ _ _ _ _ (nat_of_repeated s _ _ c.loop-i-test.true again.0)
                (nat_of_repeated s _ _ (omega arith) again.1);
          })
    ]
