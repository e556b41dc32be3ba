use Rattle.pp_gate.proofs.Growing.{AddsGates_one}
use Rattle.pp_gate.proofs.circuit.Circuit.gate.Goals as goal

pub returns-clause-adds : goal.returns-clause-adds
returns-clause-adds c = AddsGates_one _ _ c.args.gate c.requires.own c.literal_of.ensures.circuit
    c.literal_of.ensures.grown
