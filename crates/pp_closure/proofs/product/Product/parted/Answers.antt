use Rattle.pp_closure.proofs.Products.{without_first, without_fourth, without_second, without_third}
use Rattle.pp_closure.proofs.product.Product.parted.Goals as goal

pub returns-in-0 : goal.returns-in-0
returns-in-0 c ρ = without_first ρ c.args.self.now

pub returns-in-1 : goal.returns-in-1
returns-in-1 c ρ = without_second ρ c.args.self.now

pub returns-in-2 : goal.returns-in-2
returns-in-2 c ρ = without_third ρ c.args.self.now

pub returns-in_default : goal.returns-in_default
returns-in_default c ρ = without_fourth ρ c.args.self.now
