-- Steps that are known with all that they make. Source: own.
use Rattle.std.specs.Prelude.{ℕ, List, [], Option, Some, Contains, slice_get}
use Rattle.pp_steps.specs.declared.step.Step.{Step}
use Rattle.pp_steps.specs.declared.step.Step.TheVariants as steps
use Rattle.pp_simplify.specs.Folded.{Folding}
use Rattle.pp_simplify.specs.Names.{named}

-- the fields of what the step makes, if it makes a constructor
abbrev pub made_of : Option Step → List ℕ
made_of (Some (steps.Construct c fields)) = fields
made_of o = []

-- the step with the number is known, and so are the fields of what it makes
pub data IsFully (news : List Step) (K : ℕ → Type 0) : ℕ → Type 0 where
  fully : (k : ℕ) → K k → ((x : ℕ) → Contains (made_of (slice_get news k)) x → IsFully news K x) → IsFully news K k

-- what is known of the old steps, by those that stand for them
abbrev pub folded_known : Folding → (ℕ → Type 0) → ℕ → Type 0
folded_known f K k = IsFully f.steps K (named f.names k)
