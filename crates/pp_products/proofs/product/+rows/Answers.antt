use Rattle.std.proofs.Common.{arith, rules}
use Rattle.pp_bits.proofs.Growing as growing
use Rattle.pp_products.proofs.Products.{mul_budget_at, mul_turn}
use Rattle.pp_products.proofs.product.+rows.Goals as goal

pub returns-in_err-all-clause-adds : goal.returns-in_err-all-clause-adds
returns-in_err-all-clause-adds t c =
    growing.AddsGates_more _ _ _ _ _ _ c.in_ok-rest.ensures.adds c.in_err-all.ensures.adds
    (omega (arith, mul_budget_at c.args.a.now (search rules)))

pub returns-in_ok-all-clause-adds : goal.returns-in_ok-all-clause-adds
returns-in_ok-all-clause-adds t c =
    growing.AddsGates_more _ _ _ _ _ _ c.in_ok-rest.ensures.adds c.in_ok-all.ensures.adds
    (omega (arith, mul_budget_at c.args.a.now (search rules)))

pub returns-in_ok-all-clause-stands : goal.returns-in_ok-all-clause-stands
returns-in_ok-all-clause-stands t c =
    let all = c.in_ok-all.ensures in
    record {
      len = all.len;
      of = all.of;
      value = λ s gives.
          mul_turn s _ _ _ _ _ _ (search rules) c.requires.same c.index-b-0.is c.deref.ensures.value
          (c.in_ok-rest.ensures.stands.value s (growing.Gives_before _ _ _ all.adds s gives)) (all.value s gives);
    }
