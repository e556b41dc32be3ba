-- Steps whose values are known before the run: what stands in their place. Source: own; constant folding, as compilers
-- do it on straight-line code.
use Rattle.std.specs.Prelude.{ℕ, nat_eq, Bool, true, false, not, ◌&&◌, if◌then◌else◌, List, [], ◌∷◌, ◌++◌, Option}
use Rattle.std.specs.Prelude.{Some, None, length, slice_get}
use Rattle.pp_prog.specs.declared.id.CtorId.{CtorId}
use Rattle.pp_steps.specs.declared.step.Step.{Step}
use Rattle.pp_steps.specs.declared.step.Step.TheVariants as steps
use Rattle.pp_simplify.specs.Literals.{computed, stated}
use Rattle.pp_simplify.specs.Names.{Names, named}
use Rattle.pp_simplify.specs.Operands.{renamed}

abbrev pub bool_of : Option Step → Option Bool
bool_of (Some (steps.Bool b)) = Some b
bool_of o = None

-- the truth value that the step with the number is, if it is one
abbrev pub bool_at : List Step → ℕ → Option Bool
bool_at news a = bool_of (slice_get news a)

abbrev pub turned : ℕ → Option Bool → Step
turned a (Some b) = steps.Bool (not b)
turned a None = steps.Not a

-- false where one of the two is false, and true where both are true
abbrev pub both : ℕ → ℕ → Option Bool → Option Bool → Step
both a b (Some false) y = steps.Bool false
both a b (Some true) (Some y) = steps.Bool y
both a b (Some true) None = steps.Both a b
both a b None (Some false) = steps.Bool false
both a b None (Some true) = steps.Both a b
both a b None None = steps.Both a b

-- the truth value, or the choice between a step and itself
abbrev pub taken : ℕ → ℕ → Option Bool → Step
taken c a (Some v) = steps.Bool v
taken c a None = steps.Choose c a a

-- where the test is known the other operand isn't looked at
abbrev pub chosen : ℕ → ℕ → ℕ → Option Bool → Option Bool → Option Bool → Step
chosen c a b (Some true) x y = taken c a x
chosen c a b (Some false) x y = taken c b y
chosen c a b None x y = steps.Choose c a b

-- whether the step with the number, which makes a constructor, makes this one
abbrev pub tested : CtorId → ℕ → ℕ → Option Step → Step
tested c n a (Some (steps.Construct d fields)) = steps.Bool (nat_eq c.0 d.0 && nat_eq n (length fields))
tested c n a o = steps.IsCtor c n a

-- what stands in the place of a step behind these steps
abbrev pub folded : List Step → Step → Step
folded news (steps.Not a) = turned a (bool_at news a)
folded news (steps.Both a b) = both a b (bool_at news a) (bool_at news b)
folded news (steps.Choose c a b) = chosen c a b (bool_at news c) (bool_at news a) (bool_at news b)
folded news (steps.IsCtor c n a) = tested c n a (slice_get news a)
folded news s = stated s (computed news s)

-- the field at the place, of a step that makes the constructor
abbrev pub field_of : CtorId → ℕ → Option Step → Option ℕ
field_of c i (Some (steps.Construct d fields)) = if nat_eq c.0 d.0 then slice_get fields i else None
field_of c i o = None

-- the earlier step that has the value of a step behind these steps, where one is known: the step that is chosen where
-- there is no other, or the field of what was made
abbrev pub source : List Step → Step → Option ℕ
source news (steps.Choose c a b) = if nat_eq a b then Some a else None
source news (steps.CtorField c i a) = field_of c i (slice_get news a)
source news s = None

-- folded steps, and the names of those that have an earlier step's value
pub record Folding : Type 0 where
  pub steps : List Step
  pub names : Names

-- with one more step, whose operands are named first
abbrev pub next : Folding → Step → Folding
next f s =
    let t = folded f.steps (renamed (named f.names) s) in
    record { steps = f.steps ++ t ∷ []; names = f.names ++ source f.steps t ∷ [] }

-- with these steps behind, each in its turn
abbrev pub folded_from : Folding → List Step → Folding
folded_from f [] = f
folded_from f (s ∷ ss) = folded_from (next f s) ss

abbrev pub nothing_folded : Folding
nothing_folded = record { steps = []; names = [] }

-- the folded steps, and their names
abbrev pub all_folded : List Step → Folding
all_folded = folded_from nothing_folded
