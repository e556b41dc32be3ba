use Rattle.pp_named_order.proofs.Ordered.{lists_are_ordered as law}
use Rattle.pp_named_order.proofs.laws.lists_are_ordered.Goals as goal

pub returns : goal.returns
returns c = law
