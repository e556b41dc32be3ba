use Rattle.std.proofs.Common.{arith, sym}
use Rattle.std.specs.Int.{w32}
use Rattle.pp_bits.proofs.Growing.{AddsGates_more}
use Rattle.pp_word.specs.Word.{word_rem}
use Rattle.pp_build_operators.proofs.Numbers.{total_word, word_rem_zero}
use Rattle.pp_build_operators.proofs.binary_operators.remainder.Goals as goal

pub returns-in_err-none-clause-adds : goal.returns-in_err-none-clause-adds
returns-in_err-none-clause-adds c = AddsGates_more _ _ _ 16256 64 16384 c.in_ok-plain.ensures.adds
    (AddsGates_more _ _ _ 0 64 64 c.in_ok-zero.ensures.adds c.in_err-none.ensures.adds (omega arith)) (omega arith)

pub returns-in_err-whole-clause-adds : goal.returns-in_err-whole-clause-adds
returns-in_err-whole-clause-adds c = AddsGates_more _ _ _ 16256 96 16384 c.in_ok-plain.ensures.adds
    (AddsGates_more _ _ _ 0 96 96 c.in_ok-zero.ensures.adds
    (AddsGates_more _ _ _ 64 32 96 c.in_ok-none.ensures.adds c.in_err-whole.ensures.adds (omega arith)) (omega arith))
    (omega arith)

pub returns-clause-adds : goal.returns-clause-adds
returns-clause-adds c = AddsGates_more _ _ _ 16256 96 16384 c.in_ok-plain.ensures.adds
    (AddsGates_more _ _ _ 0 96 96 c.in_ok-zero.ensures.adds
    (AddsGates_more _ _ _ 64 32 96 c.in_ok-none.ensures.adds c.in_ok-whole.ensures.adds (omega arith)) (omega arith))
    (omega arith)

pub returns-clause-stands : goal.returns-clause-stands
returns-clause-stands c = total_word (word_rem w32) _ _ _ _ 0 64 32 _ _ _ _ _ _ _ c.in_ok-plain.ensures.value
    c.in_ok-zero.ensures.adds c.in_ok-zero.ensures.stands c.in_ok-none.ensures.adds c.in_ok-none.ensures.value
    c.in_ok-whole.ensures.adds c.in_ok-whole.ensures.stands (λ s null. sym (word_rem_zero _))
