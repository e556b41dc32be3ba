-- Plain descents: measure checks whose first component goes down to a variable that is bound inside a parameter. A
-- variable is inside a parameter where it is bound below a constructor pattern of a match on the parameter, or on a
-- variable inside it. What a pattern binds at its top, or a `val`, isn't inside. Source: own.
use Rattle.std.specs.Prelude.{◌≡◌, ◌<◌, ℕ, List, [], ◌∷◌, ◌++◌, map, Option, Some, None, length, replicate, slice_get}
use Rattle.std.specs.Prelude.{Contains}
use Rattle.pp_list.specs.Joined.{joined}
use Rattle.pp_prog.specs.declared.expr.Case.{Case}
use Rattle.pp_prog.specs.declared.expr.Expr.{Expr}
use Rattle.pp_prog.specs.declared.expr.Expr.TheOpen as layer
use Rattle.pp_prog.specs.declared.expr.Expr.TheVariants.{Call, Var}
use Rattle.pp_prog.specs.declared.expr.Expr.TheViews.{out-Expr}
use Rattle.pp_prog.specs.declared.expr.Function.{Function}
use Rattle.pp_prog.specs.declared.expr.Param.{Param}
use Rattle.pp_prog.specs.declared.expr.Pattern.{Pattern}
use Rattle.pp_prog.specs.declared.expr.Pattern.TheFolds.{fold-Pattern}
use Rattle.pp_prog.specs.declared.expr.Pattern.TheOpen as pattern
use Rattle.pp_prog.specs.declared.id.CheckId.{CheckId}
use Rattle.pp_prog.specs.declared.id.DataId.{DataId}
use Rattle.pp_prog.specs.declared.id.FunctionId.{FunctionId}
use Rattle.pp_prog.specs.declared.sort.Sort.TheVariants.{Tree}

-- ---- variables

-- how a variable was bound: below a constructor pattern of a match on variable number j, or in any other way: as a
-- parameter, by a `val`, as the result, at the top of a pattern, or in a match on what is no variable
pub data Origin : Type 0 where
  below : ℕ → Origin
  apart : Origin

-- how each variable in scope was bound, in the order of their numbers
abbrev pub Scope : Type 0
Scope = List Origin

-- variable number i is inside parameter number p: it was bound below a constructor pattern of a match on p, or on a
-- variable that was bound before it and is inside p
pub data IsInside (scope : Scope) (p : ℕ) : ℕ → Type 0 where
  directly : {i : ℕ} → slice_get scope i ≡ Some (below p) → IsInside scope p i
  further : {i j : ℕ} → slice_get scope i ≡ Some (below j) → j < i → IsInside scope p j → IsInside scope p i

-- what a pattern is: the variables that it binds, by how those at its top are bound
abbrev pub Binding : Type 0
Binding = Origin → List Origin

module _ (inner : Origin) where
  -- one level, with what the inner patterns bind in their place; `inner` says how what stands below a constructor
  -- pattern is bound
  abbrev pub bound_step : pattern.Pattern-F Binding → Binding
  bound_step pattern.Any top = []
  bound_step (pattern.Bind p) top = top ∷ p top
  bound_step (pattern.Int n) top = []
  bound_step (pattern.Bool b) top = []
  bound_step (pattern.Ctor c ps) top = joined (map (λ (p : Binding). p inner) ps)

  -- how each variable of the pattern is bound, the outer before the inner, from left to right
  abbrev pub bound_by : Pattern → Binding
  bound_by = fold-Pattern Binding bound_step

-- how a match on this expression binds what stands below a constructor pattern
abbrev pub bound_below : layer.Expr-F Expr Case → Origin
bound_below (layer.Var j) = below j
bound_below _ = apart

-- ---- where an expression stands

-- an expression in its scope
abbrev pub Scoped : Type 0
Scoped = Scope × Expr

-- these expressions, all in one scope
abbrev pub each_in : Scope → List Expr → List Scoped
each_in scope es = map (λ (e : Expr). (scope, e)) es

-- the expression, if one is written
abbrev pub if_written : Option Expr → List Expr
if_written None = []
if_written (Some e) = e ∷ []

-- the guard and the body of a case
abbrev pub parts_of_case : Scope → Origin → Case → List Scoped
parts_of_case scope inner c =
    let all = scope ++ bound_by inner c.pattern apart in each_in all (if_written c.guard) ++ (all, c.body) ∷ []

-- the parts of one level: guards and bodies of cases see what their pattern binds, and what follows a `val` sees it
abbrev pub parts_in : Scope → layer.Expr-F Expr Case → List Scoped
parts_in scope (layer.Int n) = []
parts_in scope (layer.Bool b) = []
parts_in scope (layer.Var i) = []
parts_in scope (layer.Unary op a) = (scope, a) ∷ []
parts_in scope (layer.Binary op a b check) = (scope, a) ∷ (scope, b) ∷ []
parts_in scope (layer.Construct c args) = each_in scope args
parts_in scope (layer.Field e k) = (scope, e) ∷ []
parts_in scope (layer.If c a b) = (scope, c) ∷ (scope, a) ∷ (scope, b) ∷ []
parts_in scope (layer.Match e cases check) =
    (scope, e) ∷ joined (map (parts_of_case scope (bound_below (out-Expr e))) cases)
parts_in scope (layer.Val bound rest) = (scope, bound) ∷ (scope ++ apart ∷ [], rest) ∷ []
parts_in scope (layer.Assert check c rest) = (scope, c) ∷ (scope, rest) ∷ []
parts_in scope (layer.Call g args pre measure) = each_in scope args

-- the parts of an expression, each in its scope
abbrev pub parts_of : Scoped → List Scoped
parts_of part = parts_in part.0 (out-Expr part.1)

-- the site is a part of the expression: it is the expression itself, or a part of a part
pub data IsPartOf (site : Scoped) : Scoped → Type 0 where
  itself : IsPartOf site site
  within : {whole part : Scoped} → Contains (parts_of whole) part → IsPartOf site part → IsPartOf site whole

-- the claim of the postcondition, if one is written
abbrev pub claim : Option (CheckId × Expr) → List Expr
claim None = []
claim (Some post) = post.1 ∷ []

-- the precondition, the measure list, the body and the postcondition of a function, which alone sees the result
abbrev pub parts_of_function : Function → List Scoped
parts_of_function f =
    let params = replicate (length f.params) apart in
    let claimed = each_in (params ++ apart ∷ []) (claim f.post) in
    each_in params (if_written f.pre) ++ each_in params f.measure ++ (params, f.body) ∷ claimed

-- ---- plain descents

-- the measure of the function begins with its parameter number p
abbrev pub BeginsWith : Function → ℕ → Type 0
BeginsWith f p = (p < length f.params) × (slice_get f.measure 0 ≡ Some (Var p))

-- parameter number p of the function is of a datatype
abbrev pub IsOfDatatype : Function → ℕ → Type 0
IsOfDatatype f p = (param : Param) × (d : DataId) × (slice_get f.params p ≡ Some param) × (param.sort ≡ Tree d)

-- the site is a call with measure check c: the measure of the called function begins with one of its parameters, and
-- the argument for that one is a variable inside parameter number p of the caller
pub record IsPlainSite (functions : List Function) (p c : ℕ) (site : Scoped) : Type 0 where
  pub callee : FunctionId
  pub args : List Expr
  pub pre : Option CheckId
  pub check : CheckId
  pub call : site.1 ≡ Call callee args pre (Some check)
  pub number : check.0 ≡ c
  pub called : Function
  pub there : slice_get functions callee.0 ≡ Some called
  pub param : ℕ
  pub begins : BeginsWith called param
  pub variable : ℕ
  pub argument : slice_get args param ≡ Some (Var variable)
  pub inside : IsInside site.0 p variable

-- check c is a plain descent of the function: its measure begins with a parameter of a datatype, and in one of its
-- parts stands a site that carries the check and goes down in that parameter
pub record HasDescent (functions : List Function) (f : Function) (c : ℕ) : Type 0 where
  pub param : ℕ
  pub begins : BeginsWith f param
  pub datatype : IsOfDatatype f param
  pub part : Scoped
  pub listed : Contains (parts_of_function f) part
  pub site : Scoped
  pub stands : IsPartOf site part
  pub down : IsPlainSite functions param c site

-- check c is a plain descent of some function
abbrev pub IsPlain : List Function → ℕ → Type 0
IsPlain functions c =
    (f : ℕ) × (function : Function) × (slice_get functions f ≡ Some function) × HasDescent functions function c
