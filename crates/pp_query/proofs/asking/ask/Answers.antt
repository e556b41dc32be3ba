use Rattle.std.proofs.Common.{◌∙◌, sym, arith}
use Rattle.pp_query.proofs.Asked.{same_number-false, same_number-true}
use Rattle.pp_query.proofs.Outcomes.{asked_of_circuit, none_opposite, none_where_opposite, none_where_refuted}
use Rattle.pp_query.proofs.Outcomes.{sat_completed, spent_evidence}
use Rattle.pp_query.proofs.asking.ask.Goals as goal

pub returns-then-eq : goal.returns-then-eq
returns-then-eq c = record {
  reply =
      let same = same_number-true c.args.fails c.negated.result (sym c.eq.ensures ∙ c.if-eq.true) in
      none_where_opposite _ _ _ c.args.lemmas (same ∙ c.negated.ensures);
}

pub clauses_of-requires-clause-room : goal.clauses_of-requires-clause-room
clauses_of-requires-clause-room c = let small = c.requires.small in omega arith

pub clauses_of-requires-clause-of : goal.clauses_of-requires-clause-of
clauses_of-requires-clause-of c =
    asked_of_circuit _ _ _ c.requires.circuit c.requires.fails c.requires.circuit_ok _
    (c.as_slice-asked.ensures ∙ c.in_ok-assumptions.ensures)

pub solve-requires-clause-fit : goal.solve-requires-clause-fit
solve-requires-clause-fit c =
    let small = c.requires.small in let few = c.in_ok-clauses.ensures.few in
    let lemmas = c.requires.lemmas in omega arith

pub solve-requires-clause-apart : goal.solve-requires-clause-apart
solve-requires-clause-apart c =
    none_opposite _ _ _ c.requires.circuit c.requires.fails c.requires.circuit_ok _
    (c.as_slice-asked.ensures ∙ c.in_ok-assumptions.ensures)
    (λ e. same_number-false c.args.fails c.negated.result (sym c.eq.ensures ∙ c.if-eq.false)
    (e ∙ sym c.negated.ensures))

pub returns-in_ok-whole-in-Sat : goal.returns-in_ok-whole-in-Sat
returns-in_ok-whole-in-Sat c = record {
  reply = sat_completed _ _ _ c.requires.circuit c.requires.fails c.requires.circuit_ok _
      (c.as_slice-asked.ensures ∙ c.in_ok-assumptions.ensures) _ c.in_ok-clauses.ensures c.args.lemmas _ _ _
      c.in-Sat.is c.in_ok-assignment.ensures.sat_clauses c.in_ok-assignment.ensures.sat_assumptions
      c.in_ok-whole-in-Sat.ensures.gives c.in_ok-whole-in-Sat.ensures.inputs;
}

pub returns-in-Unsat : goal.returns-in-Unsat
returns-in-Unsat c = record {
  reply = none_where_refuted _ _ _ c.requires.circuit c.requires.fails c.requires.circuit_ok _
      (c.as_slice-asked.ensures ∙ c.in_ok-assumptions.ensures) _ c.in_ok-clauses.ensures c.args.lemmas _
      c.in-Unsat.field-0 c.in-Unsat.is c.in_ok-assignment.ensures.unsat_refutes;
}

pub returns-in-Spent : goal.returns-in-Spent
returns-in-Spent c = record {
  reply = spent_evidence _ _ _ c.requires.circuit c.requires.fails c.requires.circuit_ok _
      (c.as_slice-asked.ensures ∙ c.in_ok-assumptions.ensures) _ c.in_ok-clauses.ensures c.args.lemmas _
      c.in-Spent.log _ c.in-Spent.is c.as_slice-asked.ensures c.in_ok-assignment.ensures.spent;
}
