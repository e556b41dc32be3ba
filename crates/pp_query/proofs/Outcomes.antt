-- What the solver's outcomes say of a circuit and its two literals.
use Rattle.std.proofs.Common.{◌≡◌, ◌↔◌, ℕ, Bool, true, List, All, length, sym, subst}
use Rattle.std.specs.List.{list_all}
use Rattle.std.proofs.lemmas.List.Elements.{All-weaker}
use Rattle.pp_clause.specs.declared.log.Lemma.{Lemma}
use Rattle.pp_cdcl.specs.declared.answer.Answer.{Answer}
use Rattle.pp_cdcl.specs.declared.answer.Answer.TheVariants as answer
use Rattle.pp_cdcl.specs.Answer.{IfSat, IfSpent, IfUnsat}
use Rattle.pp_clause.specs.Assignment.{assigned}
use Rattle.pp_clause.specs.Clause.{HasBoth, clauses_value}
use Rattle.pp_clause.specs.Literal.{Literal, lit_value, opposite}
use Rattle.pp_clause.specs.Log.{Refutes}
use Rattle.pp_clause.specs.New.{IsSpentLog}
use Rattle.pp_clause.proofs.Soundness.{refuted_law}
use Rattle.pp_gate.specs.declared.gate.Gate.{Gate}
use Rattle.pp_gate.specs.Circuit.{Gives, IsCircuit, IsOf}
use Rattle.pp_gate.specs.Laws.{AgreeOnInputs}
use Rattle.pp_gate.proofs.Clausal.{all_of_two}
use Rattle.pp_evidence.specs.Evidence.{IsAmong, Satisfiable}
use Rattle.pp_query.specs.declared.reply.Reply.TheVariants.{Model, NoModel, Spent}
use Rattle.pp_query.specs.Reply.{AreClausesOf, IsFailing, IsReply, asked_of}
use Rattle.pp_query.proofs.Asked.{asked_apart, completed_fails, failing_satisfies, opposite_never_fails, some_fails}

module _ (gs : List Gate) (fails ok : Literal) where
  -- the two literals are each the negation of the other
  pub none_where_opposite : (lemmas : ℕ) → fails ≡ opposite ok → IsReply gs fails ok lemmas NoModel
  none_where_opposite lemmas e a f = opposite_never_fails gs fails ok a e f

  module _ (circuit : IsCircuit gs) (fails_of : IsOf gs fails) (ok_of : IsOf gs ok) (asked : List Literal)
      (same : asked ≡ asked_of fails ok)
    where
      asked_within : All (IsOf gs) (asked_of fails ok)
      asked_within = all_of_two (length gs) fails ok fails_of ok_of

      pub asked_of_circuit : All (IsOf gs) asked
      asked_of_circuit = rw same asked_within

      pub none_opposite : (fails ≡ opposite ok → ⊥) → HasBoth asked → ⊥
      none_opposite differ both = asked_apart fails ok differ (subst HasBoth same both)

      module _ (cs : List (List Literal)) (clauses : AreClausesOf gs asked cs) where
        own_clauses : AreClausesOf gs (asked_of fails ok) cs
        own_clauses = subst (λ ls. AreClausesOf gs ls cs) same clauses

        -- the assignment that the solver found, completed
        pub sat_completed : (lemmas : ℕ) (found : Answer) (values whole : List Bool) → found ≡ answer.Sat values
            → IfSat found (λ s. clauses_value (assigned s) cs ≡ true)
            → IfSat found (λ s. list_all (lit_value (assigned s)) asked ≡ true) → Gives (assigned whole) gs
            → AgreeOnInputs gs (assigned values) (assigned whole) → IsReply gs fails ok lemmas (Model whole)
        sat_completed lemmas found values whole e true_clauses true_asked gives inputs =
            let value = subst (λ r. IfSat r (λ s. clauses_value (assigned s) cs ≡ true)) e true_clauses in
            let assumed = subst (λ r. IfSat r (λ s. list_all (lit_value (assigned s)) asked ≡ true)) e true_asked in
            completed_fails gs fails ok circuit asked_within cs own_clauses (assigned values) (assigned whole) value
            (subst (λ ls. list_all (lit_value (assigned values)) ls ≡ true) same assumed) gives inputs

        pub none_where_refuted : (lemmas : ℕ) (found : Answer) (log : List Lemma) → found ≡ answer.Unsat log
            → IfUnsat found (Refutes cs asked) → IsReply gs fails ok lemmas NoModel
        none_where_refuted lemmas found log e by_answer a f =
            let refutes = subst (λ r. IfUnsat r (Refutes cs asked)) e by_answer in
            let s = failing_satisfies gs fails ok circuit asked_within cs own_clauses a f in
            refuted_law cs (asked_of fails ok) log clauses.clauses (subst (λ ls. Refutes cs ls log) same refutes) a s.0
            s.1

        -- the clauses can be made true together with the literals exactly where some assignment is a model
        clauses_exact : Satisfiable cs (asked_of fails ok) ↔ ((a : ℕ → Bool) × IsFailing gs fails ok a)
        clauses_exact = (
          λ s. some_fails gs fails ok circuit asked_within cs own_clauses s.assignment s.clauses s.assumptions,
          λ f. let s = failing_satisfies gs fails ok circuit asked_within cs own_clauses f.0 f.1 in
              record { assignment = f.0; clauses = s.0; assumptions = s.1 },
        )

        lits_among : (ls : List Literal) → All (IsOf gs) ls → All (IsAmong (length gs)) ls
        lits_among ls within = All-weaker (IsOf gs) (IsAmong (length gs)) (λ l of. of.most) ls within

        evidence : (lemmas : ℕ) (log : List Lemma) → IsSpentLog cs asked lemmas log
            → IsReply gs fails ok lemmas (Spent (record { clauses = cs; assumptions = asked; log = log }))
        evidence lemmas log spent = record {
          spent = record {
            log = spent;
            clauses = All-weaker (λ ls. All (IsOf gs) ls) (λ ls. All (IsAmong (length gs)) ls) lits_among cs
                clauses.within;
            assumptions = lits_among asked asked_of_circuit;
          };
          exact = subst (λ ls. Satisfiable cs ls ↔ ((a : ℕ → Bool) × IsFailing gs fails ok a)) (sym same)
              clauses_exact;
        }

        pub spent_evidence : (lemmas : ℕ) (found : Answer) (log : List Lemma) (lits : List Literal)
            → found ≡ answer.Spent log → asked ≡ lits → IfSpent found (IsSpentLog cs asked lemmas)
            → IsReply gs fails ok lemmas (Spent (record { clauses = cs; assumptions = lits; log = log }))
        spent_evidence lemmas found log lits e own by_answer =
            let spent = subst (λ r. IfSpent r (IsSpentLog cs asked lemmas)) e by_answer in
            subst (λ ls. IsReply gs fails ok lemmas (Spent (record { clauses = cs; assumptions = ls; log = log }))) own
            (evidence lemmas log spent)
