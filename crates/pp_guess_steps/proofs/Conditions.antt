-- Conditions on the expressions that steps come from, which go from an expression to its parts.
use Rattle.std.proofs.Common.{◌≡◌, List, Option, Some, None}
use Rattle.std.specs.Prelude.{slice_get}
use Rattle.pp_prog.specs.declared.expr.Case.{Case}
use Rattle.pp_prog.specs.declared.expr.Expr.{Expr}
use Rattle.pp_prog.specs.declared.expr.Expr.TheOpen as layer
use Rattle.pp_prog.specs.declared.expr.Expr.TheViews.{roll-Case, roll-Expr}
use Rattle.pp_prog.specs.declared.expr.Function.{Function}
use Rattle.pp_prog.specs.declared.id.CheckId.{CheckId}
use Rattle.pp_prog.specs.declared.id.CtorId.{CtorId}
use Rattle.pp_prog.specs.declared.id.FunctionId.{FunctionId}
use Rattle.pp_prog.specs.declared.sort.Sort.{Sort}
use Rattle.pp_steps_run.specs.Told.{AllOf}

-- there is none, or it satisfies the predicate
abbrev pub MaybeOf : {A : Type 0} → (A → Type 0) → Option A → Type 0
MaybeOf P None = Unit {0}
MaybeOf P (Some x) = P x

module _ (Makes : CtorId → Type 0) (Meets : FunctionId → Type 0) (Holds : Expr → Type 0) (Suits : Case → Type 0) where
  -- the parts of an expression satisfy the condition, and so does the constructor or the function that it names
  abbrev pub PartsHold : layer.Expr-F Expr Case → Type 0
  PartsHold (layer.Int n) = Unit {0}
  PartsHold (layer.Bool b) = Unit {0}
  PartsHold (layer.Var i) = Unit {0}
  PartsHold (layer.Unary op a) = Holds a
  PartsHold (layer.Binary op a b check) = Holds a × Holds b
  PartsHold (layer.Construct c args) = Makes c × AllOf Holds args
  PartsHold (layer.Field e i) = Holds e
  PartsHold (layer.If c a b) = Holds c × Holds a × Holds b
  PartsHold (layer.Match e arms check) = Holds e × AllOf Suits arms
  PartsHold (layer.Val bound rest) = Holds bound × Holds rest
  PartsHold (layer.Assert check c rest) = Holds c × Holds rest
  PartsHold (layer.Call g args pre down) = Meets g × AllOf Holds args

  -- those of a case
  abbrev pub CaseHolds : layer.Case-F Expr Case → Type 0
  CaseHolds c = MaybeOf Holds c.guard × Holds c.body

-- what constructors, functions that are called, sorts that are left open, expressions and cases satisfy
pub record Conditions : Type 1 where
  pub Makes : CtorId → Type 0
  pub Meets : FunctionId → Type 0
  pub Opens : Sort → Type 0
  pub Holds : Expr → Type 0
  pub Suits : Case → Type 0
  pub parts : (y : layer.Expr-F Expr Case) → Holds (roll-Expr y) → PartsHold Makes Meets Holds Suits y
  pub case_parts : (y : layer.Case-F Expr Case) → Suits (roll-Case y) → CaseHolds Makes Meets Holds Suits y

-- so does the claim of the postcondition, if there is one
abbrev pub PostHolds : Conditions → Option (CheckId × Expr) → Type 0
PostHolds q None = Unit {0}
PostHolds q (Some post) = q.Holds post.1

-- the expressions of the function satisfy the condition
pub record FunctionHolds (q : Conditions) (f : Function) : Type 0 where
  pub pre : MaybeOf q.Holds f.pre
  pub measure : AllOf q.Holds f.measure
  pub body : q.Holds f.body
  pub post : PostHolds q f.post

-- those of a function that is called do
abbrev pub CalledHold : Conditions → List Function → Type 0
CalledHold q functions =
    (g : FunctionId) (f : Function) → q.Meets g → slice_get functions g.0 ≡ Some f → FunctionHolds q f
