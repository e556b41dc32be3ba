use Rattle.std.proofs.Common.{length, ap, ◌∙◌}
use Rattle.pp_bits.proofs.Growing.{Gives_before}
use Rattle.pp_wordscale.proofs.Magnitudes.{remainder_word, word_some}
use Rattle.pp_wordscale.proofs.signed.remainder.Goals as goal

pub returns-clause-stands : goal.returns-clause-stands
returns-clause-stands c =
    let digits = c.in_ok-digits.ensures in
    let parts = c.in_ok-rest.ensures in
    let lent = c.deref.ensures.value in
    record {
      len = digits.stands.len ∙ ap length lent ∙ parts.rest_len;
      of = digits.stands.of;
      value = λ w wide s gives some.
          let before = Gives_before _ _ _ digits.adds s gives in
          remainder_word w s _ _ _ _ _ _ _ c.requires.same wide lent parts.rest_len
          (c.sign-negative.ensures.value s before) (parts.value s before (word_some w s _ some))
          (digits.stands.value s gives);
    }
