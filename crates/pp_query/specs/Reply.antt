-- What is asked of a circuit, whether two of its literals can be true together, and what the replies mean. Source: own.
use Rattle.std.specs.Prelude.{◌≡◌, ◌↔◌, ◌≤◌, ◌*◌, ℕ, Bool, true, List, [], ◌∷◌, All, length}
use Rattle.pp_clause.specs.declared.spent.Spent.{Spent}
use Rattle.pp_clause.specs.Assignment.{assigned}
use Rattle.pp_clause.specs.Clause.{IsClause, clauses_value}
use Rattle.pp_clause.specs.Literal.{Literal, lit_value}
use Rattle.pp_gate.specs.declared.gate.Gate.{Gate}
use Rattle.pp_gate.specs.Circuit.{Gives, IsOf}
use Rattle.pp_gate.specs.Cone.{GivesAsked}
use Rattle.pp_evidence.specs.Evidence.{IsSpentQuery, Satisfiable}
use Rattle.pp_query.specs.declared.reply.Reply.{Reply}
use Rattle.pp_query.specs.declared.reply.Reply.TheVariants.{Model, NoModel, Spent as SpentReply}

-- asked to be true: that the check fails, and that all that was supposed of the inputs holds
abbrev pub asked_of : Literal → Literal → List Literal
asked_of fails circuit_ok = fails ∷ circuit_ok ∷ []

-- An assignment makes the clauses true exactly where it gives each gate on which the literals stand its value. They
-- have literals of the circuit alone, and are at most 8 a gate.
pub record AreClausesOf (gs : List Gate) (asked : List Literal) (cs : List (List Literal)) : Type 0 where
  pub clauses : All IsClause cs
  pub few : length cs ≤ 8 * length gs
  pub within : All (λ c. All (IsOf gs) c) cs
  pub value : (s : ℕ → Bool) → (clauses_value s cs ≡ true) ↔ GivesAsked s gs asked

module _ (gs : List Gate) (failing supposed : Literal) where
  -- the assignment gives each gate its value, and makes both literals true
  pub record IsFailing (a : ℕ → Bool) : Type 0 where
    pub gives : Gives a gs
    pub fails : lit_value a failing ≡ true
    pub ok : lit_value a supposed ≡ true

  -- the evidence of spent lemmas: clauses over the variables of the circuit, which can be made true together with the
  -- assumptions exactly where there is such an assignment
  pub record IsSpentReply (lemmas : ℕ) (s : Spent) : Type 0 where
    pub spent : IsSpentQuery (length gs) lemmas s
    pub exact : Satisfiable s.clauses s.assumptions ↔ ((a : ℕ → Bool) × IsFailing a)

  -- the model is such an assignment; there is none; or there is evidence that lemmas were spent
  abbrev pub IsReply : ℕ → Reply → Type 0
  IsReply lemmas (Model values) = IsFailing (assigned values)
  IsReply lemmas NoModel = (a : ℕ → Bool) → IsFailing a → ⊥
  IsReply lemmas (SpentReply s) = IsSpentReply lemmas s
