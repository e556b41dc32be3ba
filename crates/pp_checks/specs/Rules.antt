-- Which functions need which measures. Source: Stainless documentation on decreases; the list form, its length and
-- the order of the refusals are own.
use Rattle.std.specs.Prelude.{◌≡◌, ◌<◌, ◌≤◌, ℕ, Bool, true, false, List, [], map, Some, length, slice_get}
use Rattle.std.specs.Prelude.{Contains, IsTrue}
use Rattle.std.specs.List.{list_all}
use Rattle.pp_prog.specs.declared.expr.Expr.{Expr}
use Rattle.pp_prog.specs.declared.expr.Function.{Function}
use Rattle.pp_prog.specs.declared.sort.Sort.{Sort}
use Rattle.pp_prog.specs.declared.sort.Sort.TheVariants as sort
use Rattle.pp_prog.specs.declared.types.TypeTable.{TypeTable}
use Rattle.pp_prog.specs.Calls.{OneGroup, contract_calls, function_calls}
use Rattle.pp_prog.specs.Results.{result_of}
use Rattle.pp_prog.specs.Sorts.{param_sorts}
use Rattle.pp_prog.specs.Valid.{has_measure, is_written}
use Rattle.pp_checks.specs.declared.fault.PlanFault.{PlanFault}
use Rattle.pp_checks.specs.declared.fault.PlanFault.TheVariants.{NoMeasure, MeasureShape, ContractCycle, Memory}

-- one of these functions is of the group of f
abbrev pub CallsInto : List Function → ℕ → List ℕ → Type 0
CallsInto functions f gs = (g : ℕ) × Contains gs g × OneGroup functions f g

-- a component of a measure is a number or a tree
abbrev pub is_component : Sort → Bool
is_component sort.Int = true
is_component sort.Bool = false
is_component (sort.Tree d) = true

-- the first function with a measure of the group of f
pub record IsFirstMeasured (functions : List Function) (f g : ℕ) : Type 0 where
  pub alike : OneGroup functions f g
  pub measured : IsTrue (has_measure (slice_get functions g))
  pub first : (h : ℕ) → h < g → OneGroup functions f h → IsTrue (has_measure (slice_get functions h)) → ⊥

module _ (types : TypeTable) (functions : List Function) where
  -- the sorts of the components of the measure
  abbrev pub measure_sorts : Function → List Sort
  measure_sorts f = map (λ (e : Expr). result_of types functions e (param_sorts f.params)) f.measure

  -- the function calls into its own group and has no measure
  abbrev pub LacksMeasure : ℕ → Function → Type 0
  LacksMeasure f function = (function.measure ≡ []) × CallsInto functions f (function_calls function)

  -- a measure has at most four components, none is Boolean, and their sorts are those of the first measure of the
  -- group
  pub record HasShape (f : ℕ) (function : Function) : Type 0 where
    pub components : IsTrue (list_all is_component (measure_sorts function))
    pub few : length function.measure ≤ 4
    pub alike : IsTrue (is_written function.measure) → (g : ℕ) (first : Function) → IsFirstMeasured functions f g
        → slice_get functions g ≡ Some first → measure_sorts function ≡ measure_sorts first

  -- the precondition or the measure list calls into the function's own group
  abbrev pub HasContractCycle : ℕ → Function → Type 0
  HasContractCycle f function = CallsInto functions f (contract_calls function)

  -- the function keeps the rules of measures
  pub record KeepsRules (f : ℕ) (function : Function) : Type 0 where
    pub measured : LacksMeasure f function → ⊥
    pub shaped : HasShape f function
    pub layered : HasContractCycle f function → ⊥

  -- each of the first n functions keeps the rules
  abbrev pub KeepRules : ℕ → Type 0
  KeepRules n = (f : ℕ) (function : Function) → f < n → slice_get functions f ≡ Some function → KeepsRules f function

  -- the function breaks the rule that the fault names, and no rule that is asked before it
  abbrev pub Breaks : PlanFault → ℕ → Function → Type 0
  Breaks (NoMeasure g) f function = (g.0 ≡ f) × LacksMeasure f function
  Breaks (MeasureShape g) f function = (g.0 ≡ f) × (LacksMeasure f function → ⊥) × (HasShape f function → ⊥)
  Breaks (ContractCycle g) f function =
      (g.0 ≡ f) × (LacksMeasure f function → ⊥) × HasShape f function × HasContractCycle f function
  Breaks Memory f function = ⊥

  -- why a function doesn't keep the rules: want of memory, or the first rule that it breaks
  abbrev pub IsFaultAt : PlanFault → ℕ → Function → Type 0
  IsFaultAt Memory f function = Unit {0}
  IsFaultAt (NoMeasure g) f function = Breaks (NoMeasure g) f function
  IsFaultAt (MeasureShape g) f function = Breaks (MeasureShape g) f function
  IsFaultAt (ContractCycle g) f function = Breaks (ContractCycle g) f function

  -- function f is the first that breaks a rule, and the fault names it and the first rule that it breaks
  pub record IsFirstFault (fault : PlanFault) : Type 0 where
    pub place : ℕ
    pub function : Function
    pub here : slice_get functions place ≡ Some function
    pub before : KeepRules place
    pub breaks : Breaks fault place function

  -- why there is no plan: want of memory, or the first fault
  abbrev pub IsFault : PlanFault → Type 0
  IsFault Memory = Unit {0}
  IsFault (NoMeasure g) = IsFirstFault (NoMeasure g)
  IsFault (MeasureShape g) = IsFirstFault (MeasureShape g)
  IsFault (ContractCycle g) = IsFirstFault (ContractCycle g)
