use Rattle.std.proofs.Common.{length, ap, ◌∙◌, ◌-◌, ◌%◌, ◌^◌, if◌then◌else◌}
use Rattle.pp_bits.specs.Number.{nat_of}
use Rattle.pp_bits.proofs.Growing.{Gives_before}
use Rattle.pp_wordscale.proofs.signed.magnitude.Goals as goal

pub returns-clause-stands : goal.returns-clause-stands
returns-clause-stands c =
    let digits = c.in_ok-digits.ensures in
    let a = c.args.a.now in
    record {
      len = digits.stands.len;
      of = digits.stands.of;
      value = λ s gives.
          digits.stands.value s gives
          ∙ ap (λ b. if b then (2 ^ length a - nat_of s a) % 2 ^ length a else nat_of s a)
          (c.sign-negative.ensures.value s (Gives_before _ _ _ digits.adds s gives));
    }
