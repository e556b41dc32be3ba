-- Clauses: finite sets of literals, and what an assignment makes of them.
-- (own; conjunctive normal form as in propositional logic)
use Rattle.std.specs.Prelude.{ℕ, ◌≡◌, ◌<◌, ◌==◌, ◌&&◌, Bool, true, List, All, AllPairs}
use Rattle.std.specs.Bool.{beq}
use Rattle.std.specs.List.{list_any, list_all}
use Rattle.std.specs.List.Sorted.{IsNonDecreasingBy}
use Rattle.pp_clause.specs.Literal.{Literal, opposite, lit_value, IsVariable}

-- whether two literals are one and the same
abbrev pub literal_eq : Literal → Literal → Bool
literal_eq l m = (l.var == m.var) && beq l.positive m.positive

-- whether the literal stands in the list
abbrev pub has : List Literal → Literal → Bool
has ls l = list_any (literal_eq l) ls

-- the two lists are equal as sets of literals
pub record SameLiterals (ls ms : List Literal) : Type 0 where
  pub same : (l : Literal) → has ls l ≡ has ms l

-- some literal and its negation both stand in the list
pub record HasBoth (ls : List Literal) : Type 0 where
  pub literal : Literal
  pub itself : has ls literal ≡ true
  pub negation : has ls (opposite literal) ≡ true

-- a clause, written in ascending order of variable: so no literal stands there twice, and none together with its
-- negation
pub record IsClause (ls : List Literal) : Type 0 where
  pub ascending : AllPairs (λ l m. l.var < m.var) ls
  pub in_range : All (λ l. IsVariable l.var) ls

-- a clause is true where one of its literals is
abbrev pub clause_value : (ℕ → Bool) → List Literal → Bool
clause_value s ls = list_any (lit_value s) ls

-- a list of clauses is true where each of them is
abbrev pub clauses_value : (ℕ → Bool) → List (List Literal) → Bool
clauses_value s cs = list_all (clause_value s) cs

-- no assignment makes all the clauses and all the assumptions true
abbrev pub IsUnsatisfiable : List (List Literal) → List Literal → Type 0
IsUnsatisfiable cs assumed =
    (s : ℕ → Bool) → clauses_value s cs ≡ true → list_all (lit_value s) assumed ≡ true → ⊥

-- no literal has a variable below that of an earlier one
abbrev pub IsInOrder : List Literal → Type 0
IsInOrder ls = IsNonDecreasingBy (λ l. l.var) ls
