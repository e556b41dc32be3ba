-- Which steps are needed, and the list in which the others are constants. Source: own; dead code is removed so from
-- straight-line code.
use Rattle.std.specs.Prelude.{◌≡◌, ℕ, suc, ◌<◌, Bool, true, false, if◌then◌else◌, List, [], ◌∷◌, Contains, Some, length}
use Rattle.std.specs.Prelude.{slice_get}
use Rattle.pp_steps.specs.declared.step.Step.{Step}
use Rattle.pp_steps.specs.declared.step.Step.TheVariants as steps
use Rattle.pp_simplify.specs.Marks.{is_marked}
use Rattle.pp_simplify.specs.Operands.{operands}

module _ (first asked : ℕ) (ss : List Step) where
  -- the number is one of the first ones, or it is asked for, or it is an operand of a step that is needed
  pub data IsNeeded : ℕ → Type 0 where
    first_one : (k : ℕ) → k < first → IsNeeded k
    asked_one : IsNeeded asked
    operand : (k : ℕ) (s : Step) (a : ℕ) → IsNeeded k → slice_get ss k ≡ Some s → Contains (operands s) a → IsNeeded a

  -- exactly the numbers of needed steps are marked
  pub record AreNeeded (marks : List Bool) : Type 0 where
    pub len : length marks ≡ length ss
    pub every : (k : ℕ) → IsNeeded k → is_marked marks k ≡ true
    pub only : (k : ℕ) → is_marked marks k ≡ true → IsNeeded k

-- the steps, the first of which has the number k, with a constant for each that isn't kept
abbrev pub pruned : (ℕ → Bool) → ℕ → List Step → List Step
pruned kept k [] = []
pruned kept k (s ∷ ss) = (if kept k then s else steps.Bool false) ∷ pruned kept (suc k) ss

-- the new steps are the old ones with a constant for each that isn't needed
pub record IsPruned (first asked : ℕ) (old new : List Step) : Type 0 where
  pub marks : List Bool
  pub needed : AreNeeded first asked old marks
  pub steps : new ≡ pruned (is_marked marks) 0 old
