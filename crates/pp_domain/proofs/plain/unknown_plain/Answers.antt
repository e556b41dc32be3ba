use Rattle.pp_domain.proofs.PlainSymbols.{bit_unknown, word_unknown}
use Rattle.pp_domain.proofs.plain.unknown_plain.Goals as goal

pub returns-in_ok-word-in-Int-clause-unknown : goal.returns-in_ok-word-in-Int-clause-unknown
returns-in_ok-word-in-Int-clause-unknown g c =
    rw c.in-Int.is (word_unknown _ _ _ c.in_ok-word-in-Int.ensures.inputs c.in_ok-word-in-Int.ensures.chosen)

pub returns-in_ok-bit-in-Bool-clause-unknown : goal.returns-in_ok-bit-in-Bool-clause-unknown
returns-in_ok-bit-in-Bool-clause-unknown g c =
    let bit = c.in_ok-bit-in-Bool.ensures in
    rw c.in-Bool.is (bit_unknown _ _ _ bit.grows bit.circuit bit.of bit.input bit.var bit.value)
