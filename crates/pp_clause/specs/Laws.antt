-- The theorems on derivations, and on how many clauses there can be.
use Rattle.std.specs.Prelude.{ℕ, ◌<◌, ◌≤◌, ◌^◌, ◌≡◌, Bool, true, List, All, AllPairs, Contains, length}
use Rattle.pp_clause.specs.Literal.{Literal}
use Rattle.pp_clause.specs.Clause.{IsClause, SameLiterals, IsUnsatisfiable, clause_value, clauses_value}
use Rattle.pp_clause.specs.Derivation.{Derives}
use Rattle.pp_clause.specs.Log.{Refutes}
use Rattle.pp_clause.specs.New.{IsNew, AllNew}
use Rattle.pp_clause.specs.declared.log.Lemma.{Lemma}

-- each variable of the clause stands in the list
abbrev pub IsOver : List ℕ → List Literal → Type 0
IsOver xs clause = All (λ l. Contains xs l.var) clause

-- the two clauses differ as sets
abbrev pub DifferAsSets : List Literal → List Literal → Type 0
DifferAsSets c d = ¬ SameLiterals c d

-- what a chain derives is true wherever the clauses are
abbrev pub DerivedIsTrue : Type 0
DerivedIsTrue =
    (cs : List (List Literal)) (chain : List ℕ) (clause : List Literal) → All IsClause cs → Derives cs chain clause →
    (s : ℕ → Bool) → clauses_value s cs ≡ true → clause_value s clause ≡ true

-- where a log refutes clauses under assumptions, no assignment makes them all true
abbrev pub RefutedIsUnsatisfiable : Type 0
RefutedIsUnsatisfiable =
    (cs : List (List Literal)) (assumed : List Literal) (log : List Lemma) → All IsClause cs → Refutes cs assumed log →
    IsUnsatisfiable cs assumed

-- a new lemma differs as a set from each of the clauses
abbrev pub NewDiffers : Type 0
NewDiffers =
    (cs : List (List Literal)) (clause : List Literal) → IsNew cs clause → All (DifferAsSets clause) cs

-- over v variables at most 3^v clauses differ as sets
abbrev pub ClausesAreFew : Type 0
ClausesAreFew =
    (variables : List ℕ) (cs : List (List Literal)) → All IsClause cs → All (IsOver variables) cs →
    AllPairs DifferAsSets cs → length cs ≤ 3 ^ length variables

-- over v variables fewer than 3^v lemmas are each new over all clauses before it
abbrev pub NewAreFew : Type 0
NewAreFew =
    (variables : List ℕ) (cs ls : List (List Literal)) → All IsClause ls → All (IsOver variables) ls →
    AllNew cs ls → length ls < 3 ^ length variables
