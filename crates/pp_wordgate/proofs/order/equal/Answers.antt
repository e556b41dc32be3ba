use Rattle.std.specs.Int.{w32}
use Rattle.pp_wordgate.proofs.Words.{equal_word}
use Rattle.pp_wordgate.proofs.order.equal.Goals as goal

pub returns-clause-value : goal.returns-clause-value
returns-clause-value c =
    λ s gives. equal_word w32 s c.lits.ensures.value c.lits-2.ensures.value c.lits.ensures.len
    c.lits-2.ensures.len (c.in_ok-equal.ensures.stands.value s gives)
