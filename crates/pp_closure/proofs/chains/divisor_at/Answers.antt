use Rattle.std.proofs.Common.{refl, sym, ◌∙◌}
use Rattle.pp_closure.proofs.LinkedOrders.{each_some}
use Rattle.pp_closure.proofs.Remainders.{divisor_is}
use Rattle.pp_closure.proofs.chains.divisor_at.Goals as goal

pub returns : goal.returns
returns c =
    each_some c.divisor_in.result _
    (λ b is v. divisor_is _ v c.args.number b _ refl (sym c.divisor_in.ensures ∙ is))
