-- What conflict analysis has reached: a clause that the trail makes false, with the chain that derives it. (own)
use Rattle.std.specs.Prelude.{ℕ, ◌-◌, ◌≡◌, ◌<◌, ◌≤◌, true, List, Some, None, IsSome, length, take, Bool}
use Rattle.pp_clause.specs.Literal.{Literal}
use Rattle.pp_clause.specs.Clause.{has, IsClause}
use Rattle.pp_clause.specs.Derivation.{numbered, derived_by}
use Rattle.pp_clause.specs.New.{OthersNegated}
use Rattle.pp_trail.specs.declared.step.Step.{Step}
use Rattle.pp_trail.specs.Trail.{lits, StandsAt, IsTrail}
use Rattle.pp_learn.specs.Seen.{Shows, is_marked}

-- the chain derives what the marks show
pub record Reached (cs : List (List Literal)) (steps : List Step) (seen : List Bool) (chain : List ℕ) : Type 0 where
  pub found : List Literal
  pub by_chain : derived_by cs chain ≡ Some found
  pub shown : Shows seen (lits steps) found

-- a trail whose variables have a place in these marks
abbrev pub IsTrailFor : List (List Literal) → List Step → List Bool → Type 0
IsTrailFor cs steps seen = IsTrail cs (length seen - 1) steps

-- the step at this place has this reason
pub record ReasonAt (steps : List Step) (place n : ℕ) : Type 0 where
  pub step : Step
  pub at : StandsAt steps place step
  pub is : step.reason ≡ Some n

-- the clause with this number has the literal of the step at this place, and its others are negated before
pub record Forces (cs : List (List Literal)) (steps : List Step) (place n : ℕ) (clause : List Literal) : Type 0 where
  pub step : Step
  pub at : StandsAt steps place step
  pub number : numbered cs n ≡ Some clause
  pub order : IsClause clause
  pub held : has clause step.lit ≡ true
  pub others : OthersNegated (lits (take place steps)) clause step.lit

-- each step after this place has a reason
pub record AreForced (steps : List Step) (place : ℕ) : Type 0 where
  pub forced : (i : ℕ) (s : Step) → place < i → StandsAt steps i s → IsSome s.reason

-- the marked steps from this place on have no reason
pub record AreDecisions (steps : List Step) (seen : List Bool) (from : ℕ) : Type 0 where
  pub decided : (i : ℕ) (s : Step) → from ≤ i → StandsAt steps i s → is_marked seen s.lit.var ≡ true → s.reason ≡ None
