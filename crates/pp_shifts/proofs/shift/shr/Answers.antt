use Rattle.std.proofs.Common.{ap, length, ◌∙◌}
use Rattle.pp_bits.specs.Number.{signed_of}
use Rattle.pp_bits.proofs.Growing.{Gives_before}
use Rattle.pp_bits.proofs.Numbers.{nat_of_below}
use Rattle.pp_shifts.proofs.Signs.{signed_of-moved}
use Rattle.pp_shifts.proofs.shift.shr.Goals as goal

pub returns-clause-value : goal.returns-clause-value
returns-clause-value c =
    let moved = c.in_ok-digits.ensures in
    λ s gives.
    ap (signed_of (length c.args.a.now)) (moved.stands.value s gives)
    ∙ signed_of-moved _ _ _ _ (nat_of_below s c.args.a.now)
    (c.sign-sign.ensures.value s (Gives_before _ _ _ moved.adds s gives))
