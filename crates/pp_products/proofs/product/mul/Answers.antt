use Rattle.std.proofs.Common.{sym}
use Rattle.pp_products.proofs.Products.{product_swapped}
use Rattle.pp_products.proofs.product.mul.Goals as goal

pub returns-in_ok-all-clause-stands : goal.returns-in_ok-all-clause-stands
returns-in_ok-all-clause-stands c = product_swapped _ _ _ _ _ _ (sym c.requires.same) c.in_ok-all.ensures.stands
