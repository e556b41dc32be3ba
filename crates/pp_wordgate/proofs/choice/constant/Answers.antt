use Rattle.std.proofs.Common.{◌<◌, ◌^◌, refl, ◌∙◌, arith}
use Rattle.std.specs.Int.{w32}
use Rattle.pp_wordgate.proofs.Words.{constant_word, from_digits}
use Rattle.pp_wordgate.proofs.choice.constant.Goals as goal

pub returns-clause-stands : goal.returns-clause-stands
returns-clause-stands c =
    let small : c.from.result < 2 ^ 32 = omega (arith, c.from.ensures, c.cast_unsigned.type_inv) in
    from_digits w32 (c.from_lits.ensures ∙ c.deref.ensures.value) refl c.in_ok-digits.ensures.stands
    (λ s e. constant_word w32 s _ _ _ c.ranges.value small (c.from.ensures ∙ c.cast_unsigned.ensures) e)
