use Rattle.std.proofs.Common.{arith, ◌∙◌}
use Rattle.pp_bits.proofs.Growing.{Gives_before}
use Rattle.pp_bits.proofs.Numbers.{nat_of_first, nat_of_top, power_halves}
use Rattle.pp_bits.proofs.Orders.{less_signed_turn}
use Rattle.pp_bits.proofs.order.less_signed.Goals as goal

pub returns-clause-stands : goal.returns-clause-stands
returns-clause-stands c =
    let less = c.in_ok-less.ensures in
    record {
      of = less.stands.of;
      value = λ s gives. less.stands.value s gives
          ∙ less_signed_turn _ _ _ _ _ _ _ _ (power_halves _ c.requires.some)
          (nat_of_first s _ _ (omega arith)) (nat_of_first s _ _ (omega arith))
          (nat_of_top s _ _ _ _ (omega arith) c.index-a-top.is) (nat_of_top s _ _ _ _ (omega arith) c.index-b-top.is)
          (c.in_ok-lower.ensures.stands.value s (Gives_before _ _ 1 less.adds s gives));
    }
