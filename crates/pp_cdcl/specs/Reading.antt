-- An assignment that is read off a trail. (own)
use Rattle.std.specs.Prelude.{ℕ, ◌≡◌, ◌≢◌, ◌-◌, ◌≤◌, Bool, true, false, List, All, slice_index_or}
use Rattle.pp_clause.specs.Literal.{Literal}
use Rattle.pp_clause.specs.Clause.{has}
use Rattle.pp_trail.specs.declared.step.Step.{Step}

-- the values make each of the literals true
pub record Reads (values : List Bool) (ls : List Literal) : Type 0 where
  pub read : (l : Literal) → has ls l ≡ true → slice_index_or values (l.var - 1) false ≡ l.positive

-- each variable stands in the trail
pub record IsFull (vars : ℕ) (steps : List Step) : Type 0 where
  pub none_absent : (x : ℕ) → 1 ≤ x → x ≤ vars → ¬ All (λ s. s.lit.var ≢ x) steps

-- the literal's variable doesn't stand in the trail
pub record IsFree (vars : ℕ) (steps : List Step) (l : Literal) : Type 0 where
  pub low : 1 ≤ l.var
  pub up_to : l.var ≤ vars
  pub absent : All (λ s. s.lit.var ≢ l.var) steps
