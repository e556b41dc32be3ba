use Rattle.std.proofs.Common.{arith, rules, sym, ap, ◌∙◌}
use Rattle.pp_gate.specs.Gate.{gate_value}
use Rattle.pp_gate.proofs.Agreement.{positive_value}
use Rattle.pp_gate.proofs.Kept.{IsCircuit-insert, gate_same}
use Rattle.pp_gate.proofs.circuit.Circuit.literal_of.Goals as goal

pub invariant_of-self-2 : goal.invariant_of-self-2
invariant_of-self-2 c = (
  IsCircuit-insert _ _ _ c.self.invariant.0 (rw c.self.view_is c.requires.fits) c.in_ok-found.ensures.keys,
  search rules,
)

pub returns-clause-at : goal.returns-clause-at
returns-clause-at c =
    let h = c.in_ok-found.ensures.stored in
    grind (arith, h.1, gate_same c.args.gate h.0 h.2)

pub returns-clause-circuit : goal.returns-clause-circuit
returns-clause-circuit c =
    IsCircuit-insert _ _ _ c.self.invariant.0 (rw c.self.view_is c.requires.fits) c.in_ok-found.ensures.keys

pub returns-clause-stands : goal.returns-clause-stands
returns-clause-stands c =
    let h = c.in_ok-found.ensures.stored in
    record {
      of = search rules;
      value = λ s gives. positive_value s c.new.result _ c.new.ensures.var c.new.ensures.positive
          ∙ gives.gives _ h.0 h.1 ∙ ap (gate_value s) (sym (gate_same c.args.gate h.0 h.2));
    }
