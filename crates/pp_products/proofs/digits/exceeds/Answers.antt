use Rattle.std.proofs.Common.{◌∙◌, arith}
use Rattle.pp_products.proofs.Cuts.{exceeds_turn}
use Rattle.pp_products.proofs.digits.exceeds.Goals as goal

pub returns-clause-stands : goal.returns-clause-stands
returns-clause-stands c =
    let some = c.in_ok-some.ensures.stands in
    record { of = some.of; value = λ s gives. some.value s gives ∙ exceeds_turn s _ _ _ (omega arith) }
