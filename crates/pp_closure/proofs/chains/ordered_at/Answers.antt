use Rattle.std.proofs.Common.{refl, subst, sym}
use Rattle.pp_closure.specs.Order.{Ordered}
use Rattle.pp_closure.proofs.Ordered.{ordered_at}
use Rattle.pp_closure.proofs.chains.ordered_at.Goals as goal

pub returns : goal.returns
returns c v = subst (Ordered v.values c.args.number) (sym c.order_in.ensures) (ordered_at _ v c.args.number _ refl)
