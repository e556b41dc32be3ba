-- Why sources are refused, and the line that says so: the first that spells no unit; units without a typing; more than
-- 512 instances; a function that breaks a rule of measures. Source: own.
use Rattle.std.specs.Prelude.{◌≡◌, ◌+◌, ℕ, List, ◌∷◌, ◌++◌, Some, length, slice_get}
use Rattle.pp_checks.specs.Rules.{IsFirstFault}
use Rattle.pp_checks.specs.declared.fault.PlanFault.{PlanFault}
use Rattle.pp_checks.specs.declared.fault.PlanFault.TheVariants as plan
use Rattle.pp_fault.specs.declared.Fault.{Fault}
use Rattle.pp_fault.specs.declared.Rule.{Rule}
use Rattle.pp_fault.specs.declared.Rule.TheVariants as rule
use Rattle.pp_front.specs.Programs.{HaveTyping, IsProgramOf, SpellUnits}
use Rattle.pp_instances.specs.Closure.{FillsOver}
use Rattle.pp_print.specs.Faults.{named_fault_text, too_many_instances_text}
use Rattle.pp_print.specs.declared.fault.NamedFault.{NamedFault}
use Rattle.pp_print.specs.declared.fault.NamedFault.TheVariants as named
use Rattle.pp_prog.specs.declared.expr.Function.{Function}
use Rattle.pp_prog.specs.declared.id.FunctionId.{FunctionId}
use Rattle.pp_prog.specs.declared.program.Program.{Program}
use Rattle.pp_source.specs.Refuses as source
use Rattle.pp_translation.specs.Functions.{place_at}
use Rattle.pp_tree.specs.Plain.{UnitTree}
use Rattle.pp_typed.specs.declared.typed.Typed.{Typed}
use Rattle.pp_types_laws.specs.Fault.{IsRefused}

-- the word for a broken rule of typing
abbrev pub named_rule : Rule → NamedFault
named_rule rule.Unknown = named.Unknown
named_rule rule.Duplicate = named.Duplicate
named_rule rule.Mismatch = named.Mismatch
named_rule rule.Arity = named.Arity
named_rule rule.CannotInfer = named.CannotInfer
named_rule rule.Uninhabited = named.Uninhabited
named_rule rule.NotABoolean = named.NotABoolean
named_rule rule.OverLimit = named.OverLimit

-- the line on a fault of typing, at its place
abbrev pub typing_line : List (List ℕ) → Fault → List ℕ
typing_line sources f = named_fault_text (named_rule f.rule) f.name (place_at sources (f.source, f.at))

-- the fault of this kind in this function
pub data BreaksRule (f : FunctionId) : NamedFault → PlanFault → Type 0 where
  no_measure : BreaksRule f named.NoMeasure (plan.NoMeasure f)
  measure_shape : BreaksRule f named.MeasureShape (plan.MeasureShape f)
  contract_cycle : BreaksRule f named.ContractCycle (plan.ContractCycle f)

-- the line refuses the first source that spells no unit
pub record SpellsNone (sources : List (List ℕ)) (line : List ℕ) : Type 0 where
  pub before : List (List ℕ)
  pub bytes : List ℕ
  pub after : List (List ℕ)
  pub split : sources ≡ before ++ bytes ∷ after
  pub units : List UnitTree
  pub spelled : SpellUnits before units
  pub refused : source.Refuses (length before + 1) bytes line

-- the line tells a fault of units that have no typing
pub record IsUntyped (sources : List (List ℕ)) (units : List UnitTree) (line : List ℕ) : Type 0 where
  pub fault : Fault
  pub refused : IsRefused units fault
  pub says : line ≡ typing_line sources fault

-- the line says that typed units have more than 512 instances
pub record HasTooMany (typed : Typed) (line : List ℕ) : Type 0 where
  pub many : FillsOver typed 512
  pub says : line ≡ too_many_instances_text

-- the line tells the first function that breaks a rule of measures
pub record BreaksRules (p : Program) (line : List ℕ) : Type 0 where
  pub f : FunctionId
  pub function : Function
  pub here : slice_get p.functions f.0 ≡ Some function
  pub kind : NamedFault
  pub fault : PlanFault
  pub first : IsFirstFault p.types p.functions fault
  pub breaks : BreaksRule f kind fault
  pub says : line ≡ named_fault_text kind function.name function.place

-- the line refuses the sources
pub data Refuses (sources : List (List ℕ)) (line : List ℕ) : Type 0 where
  spells_none : SpellsNone sources line → Refuses sources line
  untyped : (units : List UnitTree) → SpellUnits sources units → IsUntyped sources units line → Refuses sources line
  too_many : (typed : Typed) → HaveTyping sources typed → HasTooMany typed line → Refuses sources line
  breaks_rules : (p : Program) → IsProgramOf sources p → BreaksRules p line → Refuses sources line
