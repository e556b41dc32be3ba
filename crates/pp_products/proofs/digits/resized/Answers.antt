use Rattle.std.proofs.Common.{refl}
use Rattle.pp_products.proofs.Cuts.{resized_number}
use Rattle.pp_products.proofs.digits.resized.Goals as goal

pub returns : goal.returns
returns c = resized_number _ _ _ _ _ _ _ refl c.in_ok-digits.ensures c.negated-zero.ensures c.truth.ensures.stands
    c.requires
