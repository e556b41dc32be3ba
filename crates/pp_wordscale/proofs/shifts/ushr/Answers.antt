use Rattle.std.proofs.Common.{length, ap, ◌∙◌, refl, arith}
use Rattle.std.specs.Int.{w32}
use Rattle.pp_wordgate.proofs.Words.{from_digits}
use Rattle.pp_wordscale.proofs.Distances.{distance_word, unsigned_right_word}
use Rattle.pp_wordscale.proofs.shifts.ushr.Goals as goal

pub returns-clause-stands : goal.returns-clause-stands
returns-clause-stands c =
    from_digits w32 (c.from_lits.ensures ∙ c.deref.ensures.value)
    (ap length c.lits-2.ensures.value ∙ c.lits-2.ensures.len) c.in_ok-digits.ensures.stands
    (λ s e. unsigned_right_word w32 s _ _ _ c.lits-2.ensures.value c.lits-2.ensures.len
    (distance_word w32 w32 s 5 refl (omega arith) (omega arith) c.lits.ensures.value c.lits.ensures.len refl) e)
