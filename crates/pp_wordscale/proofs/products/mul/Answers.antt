use Rattle.std.proofs.Common.{◌∙◌}
use Rattle.std.specs.Int.{w32}
use Rattle.pp_wordlaws.proofs.Sums.{product_of_bits}
use Rattle.pp_wordgate.proofs.Words.{binary_word}
use Rattle.pp_wordscale.proofs.products.mul.Goals as goal

pub returns-clause-stands : goal.returns-clause-stands
returns-clause-stands c =
    binary_word (product_of_bits w32) (c.from_lits.ensures ∙ c.deref.ensures.value) c.lits.ensures.value
    c.lits-2.ensures.value c.lits.ensures.len c.lits-2.ensures.len c.in_ok-product.ensures.stands
