-- The variables seen: marks by variable, and the steps of a trail whose variables are marked. (own)
use Rattle.std.specs.Prelude.{ℕ, ◌+◌, ◌≡◌, ◌≢◌, ◌<◌, ◌≤◌, ◌==◌, ◌&&◌, ◌||◌, Bool, true, false, List, slice_index_or}
use Rattle.std.specs.Prelude.{length, All}
use Rattle.std.specs.List.{list_any}
use Rattle.pp_clause.specs.Literal.{Literal, opposite}
use Rattle.pp_clause.specs.Clause.{has}
use Rattle.pp_trail.specs.declared.step.Step.{Step}
use Rattle.pp_trail.specs.Trail.{StandsAt}

-- whether the variable is marked
abbrev pub is_marked : List Bool → ℕ → Bool
is_marked seen x = slice_index_or seen x false

-- whether a literal of the clause has the variable
abbrev pub has_var : List Literal → ℕ → Bool
has_var clause x = list_any (λ l. l.var == x) clause

-- of these true literals, the marks show the negations of those whose variables are marked
pub record Shows (seen : List Bool) (ls found : List Literal) : Type 0 where
  pub same : (m : Literal) → has found m ≡ (is_marked seen m.var && has ls (opposite m))

-- the variables of the clause are marked too, and no others
pub record MarksAll (old new : List Bool) (clause : List Literal) : Type 0 where
  pub same : (x : ℕ) → is_marked new x ≡ (is_marked old x || has_var clause x)

-- whether the variable is one of these
abbrev pub is_met : List ℕ → ℕ → Bool
is_met xs x = list_any (λ y. y == x) xs

-- variables that have a place among the marks, with each marked one among them
pub record AreMet (seen : List Bool) (xs : List ℕ) : Type 0 where
  pub in_range : All (λ x. x < length seen) xs
  pub all : (x : ℕ) → is_marked seen x ≡ true → is_met xs x ≡ true

-- the step at this place is marked
pub record MarkedAt (steps : List Step) (seen : List Bool) (place : ℕ) : Type 0 where
  pub step : Step
  pub at : StandsAt steps place step
  pub marked : is_marked seen step.lit.var ≡ true

-- no step from the one place on, and before the other, is marked
pub record IsClear (steps : List Step) (seen : List Bool) (from end : ℕ) : Type 0 where
  pub clear : (i : ℕ) (s : Step) → from ≤ i → i < end → StandsAt steps i s → is_marked seen s.lit.var ≡ false

-- the last marked step of those from the one place on, and before the other
pub record IsLastMarked (steps : List Step) (seen : List Bool) (from end place : ℕ) : Type 0 where
  pub low : from ≤ place
  pub high : place < end
  pub marked : MarkedAt steps seen place
  pub rest : IsClear steps seen (place + 1) end

-- the only marked step of those from `start` on
pub record IsPoint (steps : List Step) (seen : List Bool) (start place : ℕ) : Type 0 where
  pub low : start ≤ place
  pub marked : MarkedAt steps seen place
  pub before : IsClear steps seen start place
  pub after : IsClear steps seen (place + 1) (length steps)

-- the steps from this place on are marked as before
pub record KeepsFrom (steps : List Step) (from : ℕ) (old new : List Bool) : Type 0 where
  pub same : (i : ℕ) (s : Step) → from ≤ i → StandsAt steps i s → is_marked new s.lit.var ≡ is_marked old s.lit.var

-- each variable of the trail has a place in marks of this length
pub record FitAll (bound : ℕ) (steps : List Step) : Type 0 where
  pub fit : (i : ℕ) (s : Step) → StandsAt steps i s → s.lit.var < bound

-- the step at this place isn't marked any more, what else was marked still is, and later steps are marked as before
pub record Turns (steps : List Step) (place : ℕ) (old new : List Bool) : Type 0 where
  pub keeps : KeepsFrom steps (place + 1) old new
  pub still : (i : ℕ) (s : Step) → i ≢ place → StandsAt steps i s → is_marked old s.lit.var ≡ true
      → is_marked new s.lit.var ≡ true
  pub cleared : (s : Step) → StandsAt steps place s → is_marked new s.lit.var ≡ false

-- a marked step among those from the one place on, and before the other
pub record IsMarkedIn (steps : List Step) (seen : List Bool) (from end place : ℕ) : Type 0 where
  pub low : from ≤ place
  pub high : place < end
  pub marked : MarkedAt steps seen place

-- the least length with all marked steps before `end` among the first steps
pub record FollowsLast (steps : List Step) (seen : List Bool) (end length : ℕ) : Type 0 where
  pub within : length ≤ end
  pub rest : IsClear steps seen length end
  pub last : (n : ℕ) → length ≡ n + 1 → MarkedAt steps seen n

-- no variable is marked
pub record AreBlank (seen : List Bool) : Type 0 where
  pub blank : (x : ℕ) → is_marked seen x ≡ false

-- the variable's step stands at this place, and is marked
pub record IsMarkedPlace (steps : List Step) (seen : List Bool) (var place : ℕ) : Type 0 where
  pub step : Step
  pub at : StandsAt steps place step
  pub is : step.lit.var ≡ var
  pub marked : is_marked seen var ≡ true

-- the variable has no step that is marked
pub record IsUnmarked (steps : List Step) (seen : List Bool) (var : ℕ) : Type 0 where
  pub unmarked : (i : ℕ) (s : Step) → StandsAt steps i s → s.lit.var ≡ var → is_marked seen var ≡ false
