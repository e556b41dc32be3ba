-- The sort of each step: that of its value, given the sorts of its operands. Source: own; the sorts are those of the
-- expressions that the steps come from.
use Rattle.std.specs.Prelude.{◌≡◌, ℕ, suc, List, [], ◌∷◌, Option, Some, None, IsTrue, length, map, slice_get}
use Rattle.pp_operators.specs.Classes.{class_of}
use Rattle.pp_operators.specs.declared.class.OperatorClass.{OperatorClass}
use Rattle.pp_operators.specs.declared.class.OperatorClass.TheVariants as class
use Rattle.pp_tree.specs.declared.operator.BinaryOp.{BinaryOp}
use Rattle.pp_prog.specs.declared.id.CtorId.{CtorId}
use Rattle.pp_prog.specs.declared.id.DataId.{DataId}
use Rattle.pp_prog.specs.declared.sort.Sort.{Sort}
use Rattle.pp_prog.specs.declared.sort.Sort.TheVariants as sort
use Rattle.pp_prog.specs.declared.types.Ctor.{Ctor}
use Rattle.pp_prog.specs.declared.types.TypeTable.{TypeTable}
use Rattle.pp_prog.specs.ExprSorts.{class_sort, field_sort, unary_sort}
use Rattle.pp_prog.specs.Sorts.{is_int}
use Rattle.pp_prog.specs.Table.{is_sort}
use Rattle.pp_steps.specs.declared.step.Step.{Step}
use Rattle.pp_steps.specs.declared.step.Step.TheVariants as steps

-- the sorts of all steps, by number
abbrev pub Sorts : Type 0
Sorts = ℕ → Sort

-- the sort of an operator of this class on two values: one that skips its right side is no step
abbrev pub class_operated : OperatorClass → Option Sort → Option Sort → Option Sort
class_operated class.Logic a b = None
class_operated c a b = class_sort c a b

abbrev pub operated_sort : BinaryOp → Option Sort → Option Sort → Option Sort
operated_sort op a b = class_operated (class_of op) a b

module _ (types : TypeTable) (σ : Sorts) where
  -- the constructor is in the table, and the fields with these numbers have its fields' sorts
  pub record Constructs (c : CtorId) (xs : List ℕ) (r : Sort) : Type 0 where
    pub ctor : Ctor
    pub stands : slice_get types.ctors c.0 ≡ Some ctor
    pub fields : map σ xs ≡ ctor.fields
    pub result : r ≡ sort.Tree ctor.of

  -- the constructor is in the table, of the datatype of a, and has n fields
  pub record Distinguishes (c : CtorId) (n a : ℕ) : Type 0 where
    pub ctor : Ctor
    pub stands : slice_get types.ctors c.0 ≡ Some ctor
    pub operand : σ a ≡ sort.Tree ctor.of
    pub fields : n ≡ length ctor.fields

  -- the constructor is in the table, of the datatype of a, and r is the sort of its field at the place
  pub record Selects (c : CtorId) (place a : ℕ) (r : Sort) : Type 0 where
    pub ctor : Ctor
    pub stands : slice_get types.ctors c.0 ≡ Some ctor
    pub operand : σ a ≡ sort.Tree ctor.of
    pub field : slice_get ctor.fields place ≡ Some r

  -- a is of a datatype with one constructor, and r is the sort of its field at the place
  pub record SelectsOnly (a place : ℕ) (r : Sort) : Type 0 where
    pub datatype : DataId
    pub operand : σ a ≡ sort.Tree datatype
    pub field : field_sort types [] datatype place ≡ Some r

  -- the step has the sort r
  abbrev pub IsSorted : Step → Sort → Type 0
  IsSorted (steps.Open s) r = (r ≡ s) × IsTrue (is_sort types.datatypes s)
  IsSorted (steps.Int n) r = (r ≡ sort.Int) × IsTrue (is_int n)
  IsSorted (steps.Bool b) r = r ≡ sort.Bool
  IsSorted (steps.Not a) r = (σ a ≡ sort.Bool) × (r ≡ sort.Bool)
  IsSorted (steps.Both a b) r = (σ a ≡ sort.Bool) × (σ b ≡ sort.Bool) × (r ≡ sort.Bool)
  IsSorted (steps.Choose c a b) r = (σ c ≡ sort.Bool) × (σ a ≡ r) × (σ b ≡ r)
  IsSorted (steps.Unary op a) r = unary_sort op (Some (σ a)) ≡ Some r
  IsSorted (steps.Binary op a b) r = operated_sort op (Some (σ a)) (Some (σ b)) ≡ Some r
  IsSorted (steps.Construct c fields) r = Constructs c fields r
  IsSorted (steps.IsCtor c n a) r = Distinguishes c n a × (r ≡ sort.Bool)
  IsSorted (steps.CtorField c i a) r = Selects c i a r
  IsSorted (steps.Field a i) r = SelectsOnly a i r
  -- measures are compared where they have one list of sorts, so what is asked of two values of one sort is always true
  IsSorted (steps.IsAlike a b) r = (σ a ≡ σ b) × (r ≡ sort.Bool)
  IsSorted (steps.GoesDown a b) r = (σ a ≡ σ b) × (r ≡ sort.Bool)
  IsSorted (steps.HasAnswer c) r = (σ c.reach ≡ sort.Bool) × (map σ c.args ≡ c.params) × (r ≡ sort.Bool)
  IsSorted (steps.Answer c) r = (map σ c.args ≡ c.params) × (r ≡ c.result) × IsTrue (is_sort types.datatypes c.result)

  -- each step has its sort, where the first has the number k
  abbrev pub AllSorted : ℕ → List Step → Type 0
  AllSorted k [] = Unit {0}
  AllSorted k (s ∷ ss) = IsSorted s (σ k) × AllSorted (suc k) ss
