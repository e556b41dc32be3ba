use Rattle.std.proofs.Common.{sym, subst, refl}
use Rattle.pp_closure.specs.Order.{Says}
use Rattle.pp_closure.proofs.Ordered.{says_at}
use Rattle.pp_closure.proofs.orders.order_at.Goals as goal

pub returns : goal.returns
returns c v = subst (Says v.values c.args.number) (sym c.order_in.ensures) (says_at _ v c.args.number _ refl)
