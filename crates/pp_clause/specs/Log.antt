-- What a log of lemmas derives and refutes. (own)
use Rattle.std.specs.Prelude.{◌-◌, ◌≡◌, Bool, true, List, [], ◌∷◌, ◌++◌, ⊤, map, length, slice_get, IsSomeAnd}
use Rattle.std.specs.List.{list_all}
use Rattle.pp_clause.specs.Literal.{Literal, opposite}
use Rattle.pp_clause.specs.Clause.{has, IsClause}
use Rattle.pp_clause.specs.Derivation.{Derives, IsChain}
use Rattle.pp_clause.specs.declared.log.Lemma.{Lemma}

-- each lemma is derived by its chain from the given clauses and the lemmas before it, which are numbered in this order
abbrev pub AllDerived : List (List Literal) → List Lemma → Type 0
AllDerived cs [] = ⊤
AllDerived cs (m ∷ ms) = Derives cs m.chain m.clause × AllDerived (cs ++ m.clause ∷ []) ms

-- whether the set has the negation of each literal of the clause
abbrev pub all_negated : List Literal → List Literal → Bool
all_negated set clause = list_all (λ l. has set (opposite l)) clause

-- the log isn't empty, it derives, and each literal of its last clause is the negation of an assumption
pub record Refutes (cs : List (List Literal)) (assumed : List Literal) (log : List Lemma) : Type 0 where
  pub derives : AllDerived cs log
  pub ends : IsSomeAnd (slice_get log (length log - 1)) (λ m. all_negated assumed m.clause ≡ true)

-- what each lemma is: a clause, and a chain
pub record IsLemma (m : Lemma) : Type 0 where
  pub clause : IsClause m.clause
  pub chain : IsChain m.chain

-- the clauses of the lemmas
abbrev pub lemma_clauses : List Lemma → List (List Literal)
lemma_clauses log = map (λ m. m.clause) log
