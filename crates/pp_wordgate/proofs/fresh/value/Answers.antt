use Rattle.std.specs.Int.{w32}
use Rattle.pp_wordgate.proofs.Words.{value_of_word}
use Rattle.pp_wordgate.proofs.fresh.value.Goals as goal

pub returns : goal.returns
returns c = value_of_word w32 _ c.lits.ensures.value c.lits.ensures.len c.number-digits.ensures.value
    c.cast_signed.ensures
