use Rattle.std.specs.Int.{w32}
use Rattle.pp_word.specs.Word.{word_div}
use Rattle.pp_word.proofs.Quotients.{wrapping_div_is}
use Rattle.pp_word.proofs.division.div.Goals as goal

pub returns-else-b-eq0-clause-value : goal.returns-else-b-eq0-clause-value
unfolding word_div
returns-else-b-eq0-clause-value c =
    wrapping_div_is w32 _ _ _ c.ranges.a c.ranges.b (record { sfits = c.wrapping_div.type_inv }) c.wrapping_div.ensures
