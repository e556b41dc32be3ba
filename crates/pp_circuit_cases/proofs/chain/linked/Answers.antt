use Rattle.std.proofs.Common.{arith}
use Rattle.pp_gate.proofs.Growing.{AddsGates_more}
use Rattle.pp_circuit_cases.proofs.chain.linked.Goals as goal

pub returns-in_err-chosen-clause-adds : goal.returns-in_err-chosen-clause-adds
returns-in_err-chosen-clause-adds c =
    AddsGates_more _ _ _ 2 1 4
    (AddsGates_more _ _ _ 1 1 2 c.in_ok-odd.ensures.adds c.in_ok-both.ensures.adds (omega arith))
    c.in_err-chosen.ensures.adds (omega arith)

pub returns-in_err-most-clause-adds : goal.returns-in_err-most-clause-adds
returns-in_err-most-clause-adds c =
    AddsGates_more _ _ _ 3 1 4
    (AddsGates_more _ _ _ 2 1 3
    (AddsGates_more _ _ _ 1 1 2 c.in_ok-odd.ensures.adds c.in_ok-both.ensures.adds (omega arith))
    c.in_ok-chosen.ensures.adds (omega arith))
    c.in_err-most.ensures.adds (omega arith)

pub returns-clause-adds : goal.returns-clause-adds
returns-clause-adds c =
    AddsGates_more _ _ _ 3 1 4
    (AddsGates_more _ _ _ 2 1 3
    (AddsGates_more _ _ _ 1 1 2 c.in_ok-odd.ensures.adds c.in_ok-both.ensures.adds (omega arith))
    c.in_ok-chosen.ensures.adds (omega arith))
    c.in_ok-most.ensures.adds (omega arith)
