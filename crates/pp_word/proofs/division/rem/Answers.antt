use Rattle.std.specs.Int.{w32}
use Rattle.pp_word.specs.Word.{word_rem}
use Rattle.pp_word.proofs.Quotients.{wrapping_rem_is}
use Rattle.pp_word.proofs.division.rem.Goals as goal

pub returns-else-b-eq0-clause-value : goal.returns-else-b-eq0-clause-value
unfolding word_rem
returns-else-b-eq0-clause-value c =
    wrapping_rem_is w32 _ _ _ c.ranges.a c.ranges.b (record { sfits = c.wrapping_rem.type_inv }) c.wrapping_rem.ensures
