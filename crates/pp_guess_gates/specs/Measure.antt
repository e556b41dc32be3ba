-- How many gates and inputs steps take where trees have names: what a look at a tree and a comparison of trees take
-- grows with the looks and comparisons so far. Source: own.
use Rattle.std.specs.Prelude.{ℕ, suc, ◌+◌, ◌*◌, List, [], ◌∷◌, ◌++◌, length}
use Rattle.pp_operators.specs.Classes.{class_of}
use Rattle.pp_operators.specs.declared.class.OperatorClass.{OperatorClass}
use Rattle.pp_operators.specs.declared.class.OperatorClass.TheVariants as class
use Rattle.pp_tree.specs.declared.operator.BinaryOp.{BinaryOp}
use Rattle.pp_prog.specs.declared.id.DataId.{DataId}
use Rattle.pp_prog.specs.declared.sort.Sort.{Sort}
use Rattle.pp_prog.specs.declared.sort.Sort.TheVariants as sort
use Rattle.pp_prog.specs.declared.types.TypeTable.{TypeTable}
use Rattle.pp_prog.specs.Sizes.{by_sort, width}
use Rattle.pp_domain.specs.Allowance.{look_gates}
use Rattle.pp_steps.specs.declared.step.Step.{Step}
use Rattle.pp_steps.specs.declared.step.Step.TheVariants as steps
use Rattle.pp_operators.specs.Gates.{unary_gates}
use Rattle.pp_steps.specs.Gates as steps_gates
use Rattle.pp_steps.specs.Sorted.{Sorts}

-- the datatype, if it is one
abbrev pub datatype_in : Sort → List DataId
datatype_in sort.Int = []
datatype_in sort.Bool = []
datatype_in (sort.Tree d) = d ∷ []

-- The datatype of the tree at which step number k looks, counted each time as if it were the first. Who reads a field
-- of a constructor looks at a tree that was asked for a constructor before, and that look isn't counted.
abbrev pub newly_looked : Sorts → ℕ → Step → List DataId
newly_looked σ k (steps.Construct c fields) = datatype_in (σ k)
newly_looked σ k (steps.IsCtor c n a) = datatype_in (σ a)
newly_looked σ k (steps.Field a i) = datatype_in (σ a)
newly_looked σ k s = []

-- how often the step compares two trees
abbrev pub newly_compared : Sorts → Step → ℕ
newly_compared σ (steps.GoesDown a b) = by_sort 0 0 (λ d. 1) (σ a)
newly_compared σ s = 0

module _ (types : TypeTable) where
  -- an operator of this class on two values of this sort; names of trees are compared bit by bit, as numbers are
  abbrev pub class_gates : OperatorClass → Sort → ℕ
  class_gates class.Equality s = by_sort 64 1 (λ d. 64) s
  class_gates c s = steps_gates.class_gates types c 0 s

  abbrev pub operator_gates : BinaryOp → Sort → ℕ
  operator_gates op s = class_gates (class_of op) s

  module _ (σ : Sorts) where
    -- step number k, after these looks and so many comparisons; an unknown value, and the choice between two, takes
    -- its width
    abbrev pub gates_after : List DataId → ℕ → ℕ → Step → ℕ
    gates_after looks compares k (steps.Open s) = width s
    gates_after looks compares k (steps.HasAnswer c) = 1
    gates_after looks compares k (steps.Answer c) = width c.result
    gates_after looks compares k (steps.Both a b) = 1
    gates_after looks compares k (steps.Choose c a b) = width (σ k)
    gates_after looks compares k (steps.Unary op a) = unary_gates op
    gates_after looks compares k (steps.Binary op a b) = operator_gates op (σ a)
    gates_after looks compares k (steps.Construct c fields) = by_sort 0 0 (look_gates types looks compares) (σ k)
    gates_after looks compares k (steps.IsCtor c n a) = by_sort 0 0 (look_gates types looks compares) (σ a)
    gates_after looks compares k (steps.Field a i) = by_sort 0 0 (look_gates types looks compares) (σ a)
    gates_after looks compares k (steps.GoesDown a b) = by_sort 1024 0 (λ d. 194 + 128 * length looks) (σ a)
    gates_after looks compares k s = 0

    -- all steps, the first of which has the number k
    abbrev pub round_gates : List DataId → ℕ → ℕ → List Step → ℕ
    round_gates looks compares k [] = 0
    round_gates looks compares k (s ∷ ss) =
        gates_after looks compares k s
        + round_gates (newly_looked σ k s ++ looks) (newly_compared σ s + compares) (suc k) ss
