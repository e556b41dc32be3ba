use Rattle.std.proofs.Common.{length, ap, ◌∙◌}
use Rattle.std.specs.Int.{w32}
use Rattle.pp_wordgate.proofs.Words.{chosen_word, from_digits}
use Rattle.pp_wordgate.proofs.choice.choose.Goals as goal

pub returns-clause-stands : goal.returns-clause-stands
returns-clause-stands c =
    from_digits w32 (c.from_lits.ensures ∙ c.deref.ensures.value)
    (ap length c.lits.ensures.value ∙ c.lits.ensures.len) c.in_ok-digits.ensures.stands
    (λ s e. chosen_word w32 s _ _ c.lits.ensures.value c.lits-2.ensures.value e)
