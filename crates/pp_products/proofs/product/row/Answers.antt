use Rattle.std.proofs.Common.{ap, ◌∙◌}
use Rattle.std.proofs.Math.Nat.{mod-eq_of_lt}
use Rattle.std.proofs.lemmas.Nat.{pow_pos}
use Rattle.pp_bits.specs.Number.{nat_of}
use Rattle.pp_bits.proofs.Growing as growing
use Rattle.pp_products.proofs.Products.{row_turn}
use Rattle.pp_products.proofs.product.row.Goals as goal

pub returns-clause-value : goal.returns-clause-value
returns-clause-value c = λ s gives.
    let high = c.in_ok-high.ensures in
    let masked = c.in_ok-masked.ensures in
    let before = growing.Gives_before _ _ _ high.adds s gives in
    let first = growing.Gives_before _ _ _ masked.adds s before in
    let zero = ap (nat_of s) c.deref.ensures.value ∙ c.in_ok-zeros.ensures.stands.value s first
    ∙ mod-eq_of_lt (pow_pos _) in
    row_turn s _ _ _ _ _ _ _ _ _ _ c.requires.same zero (masked.stands.value s before) masked.stands.len
    c.deref-2.ensures.value c.index.ensures
    high.stands.len (high.stands.value s gives) c.deref-3.ensures.value c.in_ok-all.ensures
