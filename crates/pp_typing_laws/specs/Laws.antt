-- What is computed is what the rules give. Source: own.
use Rattle.std.specs.Prelude.{◌≡◌, ◌↔◌, ℕ, Ok, Err}
use Rattle.pp_fault.specs.declared.Fault.{Fault}
use Rattle.pp_generic.specs.declared.expected.Expected.{Expected}
use Rattle.pp_rules.specs.Bodies.{TypesDef, elab_def}
use Rattle.pp_rules.specs.Elab.{elab}
use Rattle.pp_rules.specs.Scope.{Env, Scope}
use Rattle.pp_rules.specs.Typing.{Types}
use Rattle.pp_tree.specs.Plain.{DefTree, Tree}
use Rattle.pp_typed.specs.declared.declared.Declared.{Declared}
use Rattle.pp_typed.specs.declared.declared.Signature.{Signature}
use Rattle.pp_typed.specs.declared.expr.TypedExpr.{TypedExpr}
use Rattle.pp_typed.specs.declared.typed.TypedDef.{TypedDef}
use Rattle.pp_typing_laws.specs.BodyFaults.{BreaksDef}
use Rattle.pp_typing_laws.specs.Faults.{Breaks}

-- the typing of an expression that is computed is that of the rules
abbrev pub ExprsAsRuled : Type 0
ExprsAsRuled =
    (env : Env) (t : Tree) (sc : Scope) (k : ℕ) (x : Expected) (e : TypedExpr)
    → (elab env t sc k x ≡ Ok e) ↔ Types env sc k x t e

-- a fault that is computed stands in the expression
abbrev pub FaultsStand : Type 0
FaultsStand =
    (env : Env) (t : Tree) (sc : Scope) (k : ℕ) (x : Expected) (f : Fault)
    → elab env t sc k x ≡ Err f → Breaks env sc k x t f

-- the typing of a function that is computed is that of the rules
abbrev pub DefsAsRuled : Type 0
DefsAsRuled =
    (declared : Declared) (source : ℕ) (d : DefTree) (s : Signature) (f : TypedDef)
    → (elab_def declared source d s ≡ Ok f) ↔ TypesDef declared source d s f

-- a function has at most one typing
abbrev pub OneTyping : Type 0
OneTyping =
    (declared : Declared) (source : ℕ) (d : DefTree) (s : Signature) (f g : TypedDef)
    → TypesDef declared source d s f → TypesDef declared source d s g → f ≡ g

-- a fault that is computed stands in the function
abbrev pub DefFaultsStand : Type 0
DefFaultsStand =
    (declared : Declared) (source : ℕ) (d : DefTree) (s : Signature) (f : Fault)
    → elab_def declared source d s ≡ Err f → BreaksDef declared source d s f
