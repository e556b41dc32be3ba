use Rattle.std.proofs.Common.{ap, ◌∙◌}
use Rattle.std.specs.Int.{w32, int_wrap, int_wrapping_neg}
use Rattle.std.specs.Prelude.{neg_ℤ}
use Rattle.std.proofs.lemmas.Int.{wrapping_neg_is, to_z-of_z}
use Rattle.pp_parse_state.proofs.numbers.negation_of_bits.Goals as goal

pub returns : goal.returns
returns c =
    to_z-of_z w32 c.wrapping_neg.result (record { sfits = c.wrapping_neg.type_inv }) ∙ c.wrapping_neg.ensures
    ∙ ap (int_wrapping_neg w32) (to_z-of_z w32 c.cast_signed.result (record { sfits = c.cast_signed.type_inv }))
    ∙ wrapping_neg_is w32 c.cast_signed.result (record { sfits = c.cast_signed.type_inv })
    ∙ ap (λ z. int_wrap w32 (neg_ℤ z)) c.cast_signed.ensures
