use Rattle.std.proofs.Common.{arith}
use Rattle.pp_bits.proofs.Growing.{Grows_none, Grows_more, Grows_weaker}
use Rattle.pp_bits.proofs.Chosen.{inputs_none, inputs_push, chosen_none, chosen_turn}
use Rattle.pp_bits.proofs.fresh.inputs.Goals as goal

pub returns-in_err-digits-clause-grows : goal.returns-in_err-digits-clause-grows
returns-in_err-digits-clause-grows c = Grows_weaker _ _ 0 _ (Grows_none _) (omega arith)

pub loop-place-init : goal.loop-place-init
loop-place-init c =
    let none = c.in_ok-digits.ensures.items in
    record {
      grows = Grows_none _;
      circuit = c.in_ok-digits.ensures.circuit;
      inputs = inputs_none _ _ none;
      chosen = chosen_none _ _ none;
    }

pub loop-place-preserved : goal.loop-place-preserved
loop-place-preserved c =
    let now = c.loop-place.invariant in
    let input = c.in_ok-digit.ensures in
    let push = c.in_ok-push.ensures.items in
    record {
      grows = Grows_more _ _ _ _ _ _ now.grows input.grows (omega arith);
      circuit = input.circuit;
      inputs = inputs_push _ _ _ _ _ _ _ now.grows input.grows push input.of input.input input.var now.inputs;
      chosen = chosen_turn _ _ _ _ _ _ _ now.grows input.grows input.circuit push input.input input.var input.positive
          now.inputs now.chosen;
    }
