use Rattle.std.proofs.Common.{◌∙◌}
use Rattle.pp_bits.proofs.Growing.{Gives_before}
use Rattle.pp_bits.proofs.Sums.{inverted_value, difference_value}
use Rattle.pp_bits.proofs.sum.sub.Goals as goal

pub returns-clause-stands : goal.returns-clause-stands
returns-clause-stands c =
    let sum = c.in_ok-difference.ensures in
    record {
      len = sum.stands.len;
      of = sum.stands.of;
      value = λ s gives.
          let before = Gives_before _ _ _ sum.adds s gives in
          sum.stands.value s gives
          ∙ difference_value _ _ _ _ _ (inverted_value s _ _ _ _ _ c.requires.same
          (c.truth-one.ensures.stands.value s before) c.deref.ensures.value
          (c.in_ok-inverted.ensures.stands.value s before));
    }
