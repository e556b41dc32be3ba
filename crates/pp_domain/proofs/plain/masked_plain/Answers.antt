use Rattle.pp_domain.proofs.PlainSymbols.{bit_masked, word_masked}
use Rattle.pp_domain.proofs.plain.masked_plain.Goals as goal

pub returns-in_ok-word-in-Int-clause-masked : goal.returns-in_ok-word-in-Int-clause-masked
returns-in_ok-word-in-Int-clause-masked g c =
    rw c.in-Int.is (word_masked _ _ _ _ c.in_ok-word-in-Int.ensures.masked)

pub returns-in_ok-bit-in-Bool-clause-masked : goal.returns-in_ok-bit-in-Bool-clause-masked
returns-in_ok-bit-in-Bool-clause-masked g c =
    let input = c.in_ok-input-in-Bool.ensures in
    let bit = c.in_ok-bit-in-Bool.ensures in
    rw c.in-Bool.is (bit_masked _ _ _ _ _ _ c.requires.lit input.grows input.circuit input.input input.var input.value
    input.of bit.adds bit.stands)
