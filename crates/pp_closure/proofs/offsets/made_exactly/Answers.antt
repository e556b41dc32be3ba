use Rattle.pp_closure.proofs.LinkedOrders.{if_some}
use Rattle.pp_closure.proofs.offsets.made_exactly.Goals as goal

pub returns-in-Some : goal.returns-in-Some
returns-in-Some c = if_some c.exact_at.result _ _ (λ s h v holds. (h v holds).1) c.exact_at.ensures
