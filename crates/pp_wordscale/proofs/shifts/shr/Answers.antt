use Rattle.std.proofs.Common.{length, ap, ◌∙◌, refl, arith}
use Rattle.std.specs.Int.{w32}
use Rattle.pp_wordgate.proofs.Words.{same_word}
use Rattle.pp_wordscale.proofs.Distances.{distance_word, right_word}
use Rattle.pp_wordscale.proofs.shifts.shr.Goals as goal

pub returns-clause-stands : goal.returns-clause-stands
returns-clause-stands c =
    let digits = c.in_ok-digits.ensures in
    same_word w32 (c.from_lits.ensures ∙ c.deref.ensures.value) (record {
      len = digits.len ∙ ap length c.lits-2.ensures.value ∙ c.lits-2.ensures.len;
      of = digits.of;
      value = λ s gives.
          right_word w32 s _ _ _ c.lits-2.ensures.value c.lits-2.ensures.len
          (distance_word w32 w32 s 5 refl (omega arith) (omega arith) c.lits.ensures.value
          c.lits.ensures.len refl) digits.len (digits.value s gives);
    })
