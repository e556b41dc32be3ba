use Rattle.std.proofs.Common.{Some, sym, ap, ◌∙◌, arith}
use Rattle.pp_gate.specs.declared.gate.Gate.TheVariants.{Input}
use Rattle.pp_gate.proofs.Agreement.{positive_value}
use Rattle.pp_gate.proofs.Kept.{input_added, input_var}
use Rattle.pp_gate.proofs.circuit.Circuit.input.Goals as goal

pub returns-clause-adds : goal.returns-clause-adds
returns-clause-adds c =
    input_added _ _ _ _ c.gates-number.ensures.value c.in_ok-lit.ensures.circuit c.in_ok-lit.ensures.grown
    c.in_ok-lit.ensures.at

pub returns-clause-input : goal.returns-clause-input
returns-clause-input c =
    let lit = c.in_ok-lit.ensures in
    let own = input_var _ _ _ lit.circuit lit.at lit.stands.of.least in
    record { stands = lit.at ∙ ap (λ x. Some (Input x)) (sym own) }

pub returns-clause-var : goal.returns-clause-var
returns-clause-var c =
    let lit = c.in_ok-lit.ensures in
    omega (arith, input_var _ _ _ lit.circuit lit.at lit.stands.of.least)

pub returns-clause-value : goal.returns-clause-value
returns-clause-value c = λ s.
    let lit = c.in_ok-lit.ensures in
    positive_value s _ _ (omega (arith, input_var _ _ _ lit.circuit lit.at lit.stands.of.least)) lit.positive
