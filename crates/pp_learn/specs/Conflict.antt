-- What is learnt from a clause that a trail makes false. (own; conflict analysis as in clause-learning solvers)
use Rattle.std.specs.Prelude.{ℕ, ◌≡◌, ◌≢◌, ◌<◌, ◌≤◌, ◌++◌, true, List, Some, filter, length, take, is_none}
use Rattle.pp_clause.specs.Literal.{Literal}
use Rattle.pp_clause.specs.Clause.{has}
use Rattle.pp_clause.specs.Derivation.{derived_by}
use Rattle.pp_clause.specs.New.{IsOpen, OthersNegated}
use Rattle.pp_trail.specs.declared.step.Step.{Step}
use Rattle.pp_trail.specs.Trail.{lits}

-- the literals of the steps that have no reason
abbrev pub decisions : List Step → List Literal
decisions steps = lits (filter (λ s. is_none s.reason) steps)

-- the least length at which the first steps negate the literals of the clause but this one
pub record IsBack (steps : List Step) (clause : List Literal) (l : Literal) (back : ℕ) : Type 0 where
  pub others : OthersNegated (lits (take back steps)) clause l
  pub least : (n : ℕ) → OthersNegated (lits (take n steps)) clause l → back ≤ n

-- the chain derives a clause with more than one literal that is open under the set
pub record LeavesTwoOpen (cs : List (List Literal)) (set : List Literal) (chain : List ℕ) : Type 0 where
  pub found : List Literal
  pub by_chain : derived_by cs chain ≡ Some found
  pub one : Literal
  pub other : Literal
  pub one_held : has found one ≡ true
  pub other_held : has found other ≡ true
  pub differ : one ≢ other
  pub one_open : IsOpen set one
  pub other_open : IsOpen set other

-- the chain derives a clause with this literal, which is open under the set, and whose others are false
pub record LeavesOpen (cs : List (List Literal)) (set : List Literal) (l : Literal) (chain : List ℕ) : Type 0 where
  pub found : List Literal
  pub by_chain : derived_by cs chain ≡ Some found
  pub held : has found l ≡ true
  pub others : OthersNegated set found l
  pub is_open : IsOpen set l

-- each proper front of the chain derives a clause with more than one literal that is open under the set
pub record AreBeforePoint (cs : List (List Literal)) (set : List Literal) (chain : List ℕ) : Type 0 where
  pub before : (k : ℕ) → 1 ≤ k → k < length chain → LeavesTwoOpen cs set (take k chain)

-- the first part of the chain, up to the first unique implication point, leaves this literal open, and no earlier part
-- leaves but one
pub record ReachesFirstPoint (cs : List (List Literal)) (set : List Literal) (l : Literal) (chain : List ℕ) : Type 0
  where
    pub part : List ℕ
    pub rest : List ℕ
    pub is : chain ≡ part ++ rest
    pub before : AreBeforePoint cs set part
    pub leaves : LeavesOpen cs set l part

-- the new chain begins with the old one
pub record GoesOnFrom (old new : List ℕ) : Type 0 where
  pub added : List ℕ
  pub is : new ≡ old ++ added
