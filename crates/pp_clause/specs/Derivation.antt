-- What a chain of clause numbers derives, by resolution. (own; resolution as in propositional logic)
use Rattle.std.specs.Prelude.{ℕ, zero, suc, ◌<◌, ◌≤◌, ◌^◌, ◌==◌, ◌≡◌, List, [], ◌∷◌, ◌++◌, Option, Some, None, not}
use Rattle.std.specs.Prelude.{filter, slice_get, length, All}
use Rattle.std.specs.Option.{option_and_then, option_map}
use Rattle.pp_clause.specs.Literal.{Literal, opposite}
use Rattle.pp_clause.specs.Clause.{has, SameLiterals}

-- the clause with this number; the first clause has the number 1
abbrev pub numbered : List (List Literal) → ℕ → Option (List Literal)
numbered cs zero = None
numbered cs (suc n) = slice_get cs n

-- the literals of the clause whose variable has the opposite sign in what was reached so far
abbrev pub clashes : List Literal → List Literal → List Literal
clashes reached clause = filter (λ l. has reached (opposite l)) clause

-- the one item of the list, where it has exactly one
abbrev pub only_item : List Literal → Option Literal
only_item [] = None
only_item (l ∷ []) = Some l
only_item (l ∷ (m ∷ ms)) = None

-- the literals without those of the variable
abbrev pub without : ℕ → List Literal → List Literal
without x ls = filter (λ l. not (l.var == x)) ls

-- a step of a chain: exactly one variable of the clause has the opposite sign in what was reached so far,
-- and the result is the union of both without that variable
unfoldable pub resolvent : List Literal → List Literal → Option (List Literal)
resolvent reached clause = option_map (λ l. without l.var (reached ++ clause)) (only_item (clashes reached clause))

-- what the rest of a chain makes of what was reached so far
unfoldable pub reached_by : List (List Literal) → List Literal → List ℕ → Option (List Literal)
reached_by cs reached [] = Some reached
reached_by cs reached (n ∷ ns) =
    option_and_then (λ clause. option_and_then (λ next. reached_by cs next ns) (resolvent reached clause))
    (numbered cs n)

-- what a chain derives: it starts with its first clause
unfoldable pub derived_by : List (List Literal) → List ℕ → Option (List Literal)
derived_by cs [] = None
derived_by cs (n ∷ ns) = option_and_then (λ clause. reached_by cs clause ns) (numbered cs n)

-- the chain derives this clause, as a set, from the clauses
pub record Derives (cs : List (List Literal)) (chain : List ℕ) (clause : List Literal) : Type 0 where
  pub reached : List Literal
  pub by_chain : derived_by cs chain ≡ Some reached
  pub same : SameLiterals reached clause

-- a chain has at least one clause number, each is at least 1, and each has 32 bits
pub record IsChain (ns : List ℕ) : Type 0 where
  pub some : 0 < length ns
  pub numbers : All (λ n. 1 ≤ n) ns
  pub fit : All (λ n. n < 2 ^ 32) ns
