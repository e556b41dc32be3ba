use Rattle.std.proofs.Common.{◌∙◌}
use Rattle.std.specs.Int.{w32}
use Rattle.pp_wordgate.proofs.Words.{less_word}
use Rattle.pp_wordgate.proofs.order.less.Goals as goal

pub returns-clause-stands : goal.returns-clause-stands
returns-clause-stands c =
    let less = c.in_ok-less.ensures.stands in
    record {
      of = less.of;
      value = λ s gives. less.value s gives ∙ less_word w32 s c.lits.ensures.value c.lits-2.ensures.value
          c.lits.ensures.len c.lits-2.ensures.len;
    }
