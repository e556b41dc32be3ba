-- Trails over clauses: the literals that are made true, one after another, and what stands behind each. (own; the
-- trail of the usual solvers that learn clauses)
use Rattle.std.specs.Prelude.{ℕ, ◌≡◌, ◌≢◌, ◌<◌, ◌≤◌, ◌++◌, true, false, List, Bool, Option, Some, None, IsSome, All}
use Rattle.std.specs.Prelude.{AllPairs, length, take, map, slice_index_or, if◌then◌else◌}
use Rattle.pp_clause.specs.Literal.{Literal, opposite}
use Rattle.pp_clause.specs.Clause.{has}
use Rattle.pp_clause.specs.Bound.{IsUpTo}
use Rattle.pp_clause.specs.Derivation.{numbered}
use Rattle.pp_clause.specs.Log.{all_negated}
use Rattle.pp_clause.specs.New.{OthersNegated}
use Rattle.pp_trail.specs.declared.step.Step.{Step}

-- the literals of the steps
abbrev pub lits : List Step → List Literal
lits steps = map (λ s. s.lit) steps

-- this step stands at this place of the trail; the first place is 0
pub record StandsAt (steps : List Step) (place : ℕ) (step : Step) : Type 0 where
  pub within : place < length steps
  pub is : step ≡ slice_index_or steps place step

-- the clause with this number has the literal, and its other literals are negations of literals before it
pub record IsReason (cs : List (List Literal)) (before : List Literal) (lit : Literal) (number : ℕ) : Type 0 where
  pub clause : List Literal
  pub is : numbered cs number ≡ Some clause
  pub held : has clause lit ≡ true
  pub others : OthersNegated before clause lit

-- the steps are a trail over the clauses: no variable stands there twice, each is from 1 to `vars`, and the reason
-- of a step is one over the steps before it
pub record IsTrail (cs : List (List Literal)) (vars : ℕ) (steps : List Step) : Type 0 where
  pub distinct : AllPairs (λ s t. s.lit.var ≢ t.lit.var) steps
  pub from_one : All (λ s. 1 ≤ s.lit.var) steps
  pub up_to : IsUpTo vars (lits steps)
  pub reasons : (place : ℕ) (step : Step) → StandsAt steps place step → (number : ℕ) → step.reason ≡ Some number
      → IsReason cs (lits (take place steps)) step.lit number

-- the clause with this number is false under the literals: it has only negations of them
pub record IsFalse (cs : List (List Literal)) (set : List Literal) (number : ℕ) : Type 0 where
  pub clause : List Literal
  pub is : numbered cs number ≡ Some clause
  pub negated : all_negated set clause ≡ true

-- whether the literal is true under the literals of a set, false, or neither
abbrev pub value_in : List Literal → Literal → Option Bool
value_in set l = if has set l then Some true else (if has set (opposite l) then Some false else None)

-- the variable's step stands at this place
pub record IsPlaceOf (steps : List Step) (var place : ℕ) : Type 0 where
  pub step : Step
  pub stands : StandsAt steps place step
  pub is : step.lit.var ≡ var

-- the new steps are the old ones and then some more, each with a reason
pub record Extends (old new : List Step) : Type 0 where
  pub added : List Step
  pub is : new ≡ old ++ added
  pub reasons : All (λ s. IsSome s.reason) added

-- clauses, a trail over them, and the greatest variable that may stand in either
pub record Trail : Type 0 where
  pub clauses : List (List Literal)
  pub steps : List Step
  pub vars : ℕ
