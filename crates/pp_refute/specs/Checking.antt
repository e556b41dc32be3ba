-- What the parts of the checker find out. (own)
use Rattle.std.specs.Prelude.{ℕ, ◌≡◌, ◌&&◌, Bool, true, false, not, List, Option, Some, IfSome, ◌++◌, All}
use Rattle.std.specs.List.{list_all}
use Rattle.pp_clause.specs.Literal.{Literal, opposite}
use Rattle.pp_clause.specs.Clause.{literal_eq, has}
use Rattle.pp_clause.specs.Derivation.{numbered, derived_by}
use Rattle.pp_clause.specs.Log.{lemma_clauses}
use Rattle.pp_clause.specs.declared.log.Lemma.{Lemma}
use Rattle.pp_clause.specs.Bound.{Fits}
use Rattle.pp_refute.specs.Table.{marked, Agrees}

-- the clauses that a lemma may use: the given ones, then those of the lemmas before it
abbrev pub clauses_before : List (List Literal) → List Lemma → List (List Literal)
clauses_before cs lemmas = cs ++ lemma_clauses lemmas

-- each variable of the clauses has a place in a table of this length
abbrev pub AllFit : ℕ → List (List Literal) → Type 0
AllFit bound cs = All (Fits bound) cs

-- the table has what the chain derives
pub record HasDerived (cs : List (List Literal)) (chain : List ℕ) (table : List (Option Bool)) : Type 0 where
  pub reached : List Literal
  pub by_chain : derived_by cs chain ≡ Some reached
  pub agrees : Agrees table reached

-- the old table has all literals of the clause, and the new one has the others
pub record TakesOut (old new : List (Option Bool)) (clause : List Literal) : Type 0 where
  pub had : (m : Literal) → has clause m ≡ true → marked old m ≡ true
  pub left : (m : Literal) → marked new m ≡ (marked old m && not (has clause m))

-- the clause has a literal that the table hasn't
pub record Lacks (table : List (Option Bool)) (clause : List Literal) : Type 0 where
  pub literal : Literal
  pub held : has clause literal ≡ true
  pub missing : marked table literal ≡ false

-- whether the table has no literal of the clause
abbrev pub is_clear_of : List (Option Bool) → List Literal → Bool
is_clear_of table clause = list_all (λ l. not (marked table l)) clause

-- the table has no literal of the clause with this number
abbrev pub IsClearOfNumber : List (Option Bool) → List (List Literal) → ℕ → Type 0
IsClearOfNumber table cs n = IfSome (numbered cs n) (λ c. is_clear_of table c ≡ true)

-- the table has no literal of the clauses that the chain names
abbrev pub IsClearOfAll : List (Option Bool) → List (List Literal) → List ℕ → Type 0
IsClearOfAll table cs chain = All (IsClearOfNumber table cs) chain

-- the table has a literal
pub record HasSome (table : List (Option Bool)) : Type 0 where
  pub literal : Literal
  pub held : marked table literal ≡ true

-- the new table has the literals of the old one, but for the negation of this literal
pub record IsStruck (old new : List (Option Bool)) (lit : Literal) : Type 0 where
  pub left : (m : Literal) → marked new m ≡ (marked old m && not (literal_eq (opposite m) lit))
