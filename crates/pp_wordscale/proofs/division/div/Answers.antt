use Rattle.std.proofs.Common.{◌∙◌}
use Rattle.std.specs.Int.{w32}
use Rattle.pp_wordscale.proofs.Magnitudes.{division_word}
use Rattle.pp_wordscale.proofs.division.div.Goals as goal

pub returns-clause-value : goal.returns-clause-value
returns-clause-value c =
    division_word w32 c.lits.ensures.value c.lits-2.ensures.value c.lits.ensures.len
    (c.from_lits.ensures ∙ c.deref.ensures.value) c.in_ok-digits.ensures.stands
