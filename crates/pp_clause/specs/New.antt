-- Lemmas that unit propagation doesn't have already, and logs that are spent on them. (own)
use Rattle.std.specs.Prelude.{ℕ, ◌≡◌, ◌≢◌, true, false, List, [], ◌∷◌, ◌++◌, ⊤, All, length}
use Rattle.pp_clause.specs.Literal.{Literal, opposite}
use Rattle.pp_clause.specs.Clause.{has, HasBoth}
use Rattle.pp_clause.specs.Log.{AllDerived, all_negated, lemma_clauses}
use Rattle.pp_clause.specs.declared.log.Lemma.{Lemma}

-- the set has the negation of each literal of the clause but this one
pub record OthersNegated (set clause : List Literal) (l : Literal) : Type 0 where
  pub negated : (m : Literal) → has clause m ≡ true → m ≢ l → has set (opposite m) ≡ true

-- the set has neither the literal nor its negation
pub record IsOpen (set : List Literal) (l : Literal) : Type 0 where
  pub itself : has set l ≡ false
  pub negation : has set (opposite l) ≡ false

-- a set of literals that has no literal together with its negation, where no clause has the negations of
-- all its literals in the set, and none those of all but one that is open
pub record IsClosed (cs : List (List Literal)) (set : List Literal) : Type 0 where
  pub apart : ¬ HasBoth set
  pub none_false : All (λ c. all_negated set c ≡ false) cs
  pub none_unit : All (λ c. (l : Literal) → has c l ≡ true → OthersNegated set c l → ¬ IsOpen set l) cs

-- a lemma that is new over the clauses: some set that is closed for them has the negations of all its
-- literals but one that is open
pub record IsNew (cs : List (List Literal)) (clause : List Literal) : Type 0 where
  pub literal : Literal
  pub set : List Literal
  pub closed : IsClosed cs set
  pub held : has clause literal ≡ true
  pub others : OthersNegated set clause literal
  pub open_literal : IsOpen set literal

-- each lemma is new over the given clauses and the lemmas before it
abbrev pub AllNew : List (List Literal) → List (List Literal) → Type 0
AllNew cs [] = ⊤
AllNew cs (l ∷ ls) = IsNew cs l × AllNew (cs ++ l ∷ []) ls

-- the log has exactly k lemmas and derives, each lemma is new over all clauses before it, and no lemma has
-- only negated assumptions as literals
pub record IsSpentLog (cs : List (List Literal)) (assumed : List Literal) (k : ℕ) (log : List Lemma) : Type 0 where
  pub exact : length log ≡ k
  pub derives : AllDerived cs log
  pub new : AllNew cs (lemma_clauses log)
  pub none_refutes : All (λ m. all_negated assumed m.clause ≡ false) log
