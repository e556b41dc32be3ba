use Rattle.std.proofs.Common.{arith}
use Rattle.pp_bits.proofs.Growing.{AddsGates_more}
use Rattle.pp_build_operators.proofs.Numbers.{down_number}
use Rattle.pp_build_operators.proofs.descent.number_goes_down.Goals as goal

pub returns-in_err-less-clause-adds : goal.returns-in_err-less-clause-adds
returns-in_err-less-clause-adds c = AddsGates_more _ _ _ 0 512 1024 c.in_ok-zero.ensures.adds
    (AddsGates_more _ _ _ 256 256 512 c.in_ok-negative.ensures.adds c.in_err-less.ensures.adds (omega arith))
    (omega arith)

pub returns-in_err-down-clause-adds : goal.returns-in_err-down-clause-adds
returns-in_err-down-clause-adds c = AddsGates_more _ _ _ 0 513 1024 c.in_ok-zero.ensures.adds
    (AddsGates_more _ _ _ 256 257 513 c.in_ok-negative.ensures.adds
    (AddsGates_more _ _ _ 256 1 257 c.in_ok-less.ensures.adds c.in_err-down.ensures.adds (omega arith)) (omega arith))
    (omega arith)

pub returns-clause-adds : goal.returns-clause-adds
returns-clause-adds c = AddsGates_more _ _ _ 0 513 1024 c.in_ok-zero.ensures.adds
    (AddsGates_more _ _ _ 256 257 513 c.in_ok-negative.ensures.adds
    (AddsGates_more _ _ _ 256 1 257 c.in_ok-less.ensures.adds c.in_ok-down.ensures.adds (omega arith)) (omega arith))
    (omega arith)

pub returns-clause-stands : goal.returns-clause-stands
returns-clause-stands c = down_number _ _ _ _ 256 256 1 _ _ _ _ _ _ _ c.in_ok-zero.ensures.stands
    c.in_ok-negative.ensures.adds c.in_ok-negative.ensures.stands c.in_ok-less.ensures.adds c.in_ok-less.ensures.stands
    c.in_ok-down.ensures.adds c.negated.ensures c.in_ok-down.ensures.stands
