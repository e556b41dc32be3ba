use Rattle.std.proofs.Common.{length}
use Rattle.pp_products.proofs.product.+rows.Given as goal

abbrev pub decreases-rows : goal.decreases-rows
decreases-rows l = length l.a.now
