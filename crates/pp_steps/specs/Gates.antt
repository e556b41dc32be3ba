-- How high the values of steps are at most, and how many gates and inputs the steps take where trees are full blocks up
-- to a height. Source: own.
use Rattle.std.specs.Prelude.{◌≡◌, ℕ, suc, ◌+◌, ◌-◌, ◌*◌, max, min, nat_eq, if◌then◌else◌, List, [], ◌∷◌, map}
use Rattle.pp_operators.specs.Classes.{class_of}
use Rattle.pp_operators.specs.declared.class.OperatorClass.{OperatorClass}
use Rattle.pp_operators.specs.declared.class.OperatorClass.TheVariants as class
use Rattle.pp_operators.specs.Gates.{number_gates, unary_gates}
use Rattle.pp_tree.specs.declared.operator.BinaryOp.{BinaryOp}
use Rattle.pp_prog.specs.declared.sort.Sort.{Sort}
use Rattle.pp_prog.specs.declared.sort.Sort.TheVariants as sort
use Rattle.pp_prog.specs.declared.types.TypeTable.{TypeTable}
use Rattle.pp_prog.specs.Sizes.{bits, by_sort, height_at, nodes}
use Rattle.pp_prog.specs.Values.{greatest}
use Rattle.pp_steps.specs.declared.step.Step.{Step}
use Rattle.pp_steps.specs.declared.step.Step.TheVariants as steps
use Rattle.pp_steps.specs.Sorted.{Sorts}

-- the heights of all steps, by number
abbrev pub Heights : Type 0
Heights = ℕ → ℕ

module _ (types : TypeTable) where
  -- what an unknown value of a sort takes: nothing where it is a tree without a height
  abbrev pub open_gates : ℕ → Sort → ℕ
  open_gates h s = by_sort 32 1 (λ d. if nat_eq h 0 then 0 else 4 * (32 + bits types h (sort.Tree d))) s

  -- the choice between two values of a sort, the higher of which has the height h
  abbrev pub choice_gates : ℕ → Sort → ℕ
  choice_gates h s = by_sort 32 1 (λ d. 32 + bits types h (sort.Tree d)) s

  -- the equality of two values of a sort, the lower of which has the height h
  abbrev pub equality_gates : ℕ → Sort → ℕ
  equality_gates h s = by_sort (number_gates class.Equality) 1 (λ d. 4 * (32 + bits types h (sort.Tree d))) s

  -- an operator of this class on two values of this sort, the lower of which has the height h
  abbrev pub class_gates : OperatorClass → ℕ → Sort → ℕ
  class_gates class.Equality h s = equality_gates h s
  class_gates class.Bitwise h s = by_sort (number_gates class.Bitwise) 1 (λ d. 0) s
  class_gates c h s = number_gates c

  abbrev pub binary_gates : BinaryOp → ℕ → Sort → ℕ
  binary_gates op h s = class_gates (class_of op) h s

  -- whether a component of a measure of this sort goes down, from the height `old` to the height `new`
  abbrev pub descent_gates : ℕ → ℕ → Sort → ℕ
  descent_gates new old s =
      by_sort 1024 0 (λ d. 64 + 4 * (32 + bits types new (sort.Tree d)) * (1 + nodes types old (sort.Tree d))) s

module _ (types : TypeTable) (σ : Sorts) (η : Heights) where
  -- the height of step number k: that of an unknown value is 0
  abbrev pub height_of : ℕ → Step → ℕ
  height_of k (steps.Choose c a b) = max (η a) (η b)
  height_of k (steps.Construct c fields) = 1 + greatest (map η fields)
  height_of k (steps.CtorField c i a) = height_at (η a - 1) (σ k)
  height_of k (steps.Field a i) = height_at (η a - 1) (σ k)
  height_of k step = 0

  -- each step has its height, where the first has the number k
  abbrev pub AllHigh : ℕ → List Step → Type 0
  AllHigh k [] = Unit {0}
  AllHigh k (s ∷ ss) = (η k ≡ height_of k s) × AllHigh (suc k) ss

  -- the gates and inputs of step number k
  abbrev pub gates_of : ℕ → Step → ℕ
  gates_of k (steps.Open s) = open_gates types 0 s
  gates_of k (steps.HasAnswer c) = 1
  gates_of k (steps.Answer c) = open_gates types 0 c.result
  gates_of k (steps.Both a b) = 1
  gates_of k (steps.Choose c a b) = choice_gates types (max (η a) (η b)) (σ k)
  gates_of k (steps.Unary op a) = unary_gates op
  gates_of k (steps.Binary op a b) = binary_gates types op (min (η a) (η b)) (σ a)
  gates_of k (steps.GoesDown a b) = descent_gates types (η a) (η b) (σ a)
  gates_of k step = 0

  -- those of all steps, the first of which has the number k
  abbrev pub all_gates : ℕ → List Step → ℕ
  all_gates k [] = 0
  all_gates k (s ∷ ss) = gates_of k s + all_gates (suc k) ss
