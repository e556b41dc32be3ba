-- Which rules units break at which place. Source: own; the rules are those of the language.
use Rattle.std.specs.Prelude.{◌≡◌, ℕ, List, Result, Ok, Err, Some, slice_get}
use Rattle.pp_declared.specs.Declares.{Declares}
use Rattle.pp_declared.specs.Fault.{DeclaresBreak}
use Rattle.pp_declared.specs.Listed.{ClassIn, DefIn, decls_in, defs_of, roots_of}
use Rattle.pp_fault.specs.declared.Fault.{Fault}
use Rattle.pp_fault.specs.declared.Halt.{Halt}
use Rattle.pp_fault.specs.declared.Halt.TheVariants.{Memory, Broken}
use Rattle.pp_fault.specs.declared.Rule.{Rule}
use Rattle.pp_fault.specs.declared.Rule.TheVariants.{Uninhabited}
use Rattle.pp_typed.specs.Value.{IsInhabited}
use Rattle.pp_tree.specs.Plain.{UnitTree}
use Rattle.pp_typed.specs.declared.declared.Declared.{Declared}
use Rattle.pp_typed.specs.declared.declared.Signature.{Signature}
use Rattle.pp_typed.specs.declared.typed.TypedRoot.{TypedRoot}
use Rattle.pp_types_laws.specs.Typing.{HasNoTyping}
use Rattle.pp_typing_laws.specs.BodyFaults.{BreaksDef}

-- the fault of this rule, with this name, in this source, at this offset
abbrev pub fault_of : Rule → List ℕ → ℕ → ℕ → Fault
fault_of r name source offset = record { rule = r; name = name; source = source; at = offset }

-- the fault is that a root of the declarations has no value
pub record WithoutValue (units : List UnitTree) (declared : Declared) (f : Fault) : Type 0 where
  pub place : ℕ
  pub class : ClassIn
  pub root : TypedRoot
  pub written : slice_get (roots_of (decls_in units)) place ≡ Some class
  pub typed : slice_get declared.roots place ≡ Some root
  pub uninhabited : IsInhabited declared.roots declared.ctors place root → ⊥
  pub is : f ≡ fault_of Uninhabited class.class.name class.source class.class.at

-- what holds of the fault of a refusal that isn't want of memory
abbrev pub OnBroken : {A : Type 0} → Result A Halt → (Fault → Type 0) → Type 0
OnBroken (Ok a) P = Unit {0}
OnBroken (Err Memory) P = Unit {0}
OnBroken (Err (Broken f)) P = P f

-- The fault stands in the units: a declaration breaks a rule; a root that is declared has no value, or no
-- constructor; or a function's contracts or body break a rule where its signature is declared.
pub data Stands (units : List UnitTree) : Fault → Type 0 where
  in_declarations : {f : Fault} → DeclaresBreak units f.rule f.name f.source f.at → Stands units f
  without_value : {f : Fault} (declared : Declared) → Declares units declared → WithoutValue units declared f
      → Stands units f
  in_function : {f : Fault} (declared : Declared) (i : ℕ) (d : DefIn) (s : Signature) → Declares units declared
      → slice_get (defs_of (decls_in units)) i ≡ Some d
      → slice_get declared.functions i ≡ Some s → BreaksDef declared d.source d.def s f → Stands units f

-- the fault stands in the units, which have no typing
pub record IsRefused (units : List UnitTree) (f : Fault) : Type 0 where
  pub stands : Stands units f
  pub untyped : HasNoTyping units
