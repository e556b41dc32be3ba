use Rattle.pp_closure.proofs.Products.{with_first, with_fourth, with_second, with_third}
use Rattle.pp_closure.proofs.product.Product.with.Goals as goal

pub returns-then-precedes : goal.returns-then-precedes
returns-then-precedes c ρ = with_first ρ c.args.self.now c.args.step (c.is_none.ensures c.if-not-is_none.false)

pub returns-then-precedes-2 : goal.returns-then-precedes-2
returns-then-precedes-2 c ρ = with_second ρ c.args.self.now c.args.step (c.is_none.ensures c.if-not-is_none.false)

pub returns-then-precedes-3 : goal.returns-then-precedes-3
returns-then-precedes-3 c ρ = with_third ρ c.args.self.now c.args.step (c.is_none.ensures c.if-not-is_none.false)

pub returns-else-precedes-3 : goal.returns-else-precedes-3
returns-else-precedes-3 c ρ = with_fourth ρ c.args.self.now c.args.step (c.is_none.ensures c.if-not-is_none.false)
