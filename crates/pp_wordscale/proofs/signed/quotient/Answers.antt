use Rattle.std.proofs.Common.{length, ap, ◌∙◌}
use Rattle.pp_bits.proofs.Growing.{Gives_before}
use Rattle.pp_wordscale.proofs.Magnitudes.{quotient_word, word_some}
use Rattle.pp_wordscale.proofs.signed.quotient.Goals as goal

pub returns-clause-stands : goal.returns-clause-stands
returns-clause-stands c =
    let digits = c.in_ok-digits.ensures in
    let negative = c.in_ok-negative.ensures in
    let parts = c.in_ok-quotient.ensures in
    let lent = c.deref.ensures.value in
    record {
      len = digits.stands.len ∙ ap length lent ∙ parts.len;
      of = digits.stands.of;
      value = λ w wide s gives some.
          let before = Gives_before _ _ _ digits.adds s gives in
          let first = Gives_before _ _ _ negative.adds s before in
          quotient_word w s _ _ _ _ _ _ _ _ _ c.requires.same wide lent parts.len
          (c.sign-first.ensures.value s first) (c.sign-second.ensures.value s first) (negative.stands.value s before)
          (parts.value s first (word_some w s _ some)) (digits.stands.value s gives);
    }
