use Rattle.std.proofs.Common.{length, ap, ◌∙◌, if◌then◌else◌}
use Rattle.pp_clause.specs.Literal.{lit_value}
use Rattle.pp_bits.specs.Number.{nat_of}
use Rattle.pp_bits.proofs.Growing.{Gives_before}
use Rattle.pp_wordscale.proofs.signed.with_sign.Goals as goal

pub returns-clause-stands : goal.returns-clause-stands
returns-clause-stands c =
    let digits = c.in_ok-digits.ensures in
    let negated = c.in_ok-negated.ensures.stands in
    record {
      len = digits.stands.len ∙ ap length c.deref.ensures.value ∙ negated.len;
      of = digits.stands.of;
      value = λ s gives.
          digits.stands.value s gives
          ∙ ap (λ n. if lit_value s c.args.negative then n else nat_of s c.args.a.now)
          (ap (nat_of s) c.deref.ensures.value ∙ negated.value s (Gives_before _ _ _ digits.adds s gives));
    }
