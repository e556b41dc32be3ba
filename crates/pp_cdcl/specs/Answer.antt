-- What the solver's answers say. (own)
use Rattle.std.specs.Prelude.{ℕ, ◌≡◌, ◌≤◌, true, Bool, List, ⊤, length}
use Rattle.std.specs.List.{list_all}
use Rattle.pp_clause.specs.Literal.{Literal, lit_value}
use Rattle.pp_clause.specs.Clause.{clauses_value}
use Rattle.pp_clause.specs.Assignment.{assigned}
use Rattle.pp_clause.specs.Log.{Refutes}
use Rattle.pp_clause.specs.declared.log.Lemma.{Lemma}
use Rattle.pp_cdcl.specs.declared.answer.Answer.{Answer}
use Rattle.pp_cdcl.specs.declared.answer.Answer.TheVariants.{Sat, Unsat, Spent}

-- a fact of the assignment, where the answer is one
abbrev pub IfSat : Answer → (List Bool → Type 0) → Type 0
IfSat (Sat a) P = P a
IfSat (Unsat log) P = ⊤
IfSat (Spent log) P = ⊤

-- a fact of the log that refutes, where the answer is one
abbrev pub IfUnsat : Answer → (List Lemma → Type 0) → Type 0
IfUnsat (Sat a) P = ⊤
IfUnsat (Unsat log) P = P log
IfUnsat (Spent log) P = ⊤

-- a fact of the log of spent lemmas, where the answer is one
abbrev pub IfSpent : Answer → (List Lemma → Type 0) → Type 0
IfSpent (Sat a) P = ⊤
IfSpent (Unsat log) P = ⊤
IfSpent (Spent log) P = P log

-- the answer is that all lemmas are spent
abbrev pub IsSpent : Answer → Type 0
IsSpent (Sat a) = ⊥
IsSpent (Unsat log) = ⊥
IsSpent (Spent log) = ⊤

-- the assignment makes the clauses and the assumptions true
pub record Satisfies (cs : List (List Literal)) (assumed : List Literal) (values : List Bool) : Type 0 where
  pub clauses : clauses_value (assigned values) cs ≡ true
  pub assumptions : list_all (lit_value (assigned values)) assumed ≡ true

-- the log refutes the clauses under the assumptions, with at most so many lemmas
pub record RefutesWithin (cs : List (List Literal)) (assumed : List Literal) (lemmas : ℕ) (log : List Lemma) : Type 0
  where
    pub few : length log ≤ lemmas
    pub refutes : Refutes cs assumed log
