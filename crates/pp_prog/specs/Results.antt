-- The sort of an expression, read off its form without a test of its parts. Where the expression has a sort, it is
-- this one: `proofs/Results` has that lemma. Source: own.
use Rattle.std.specs.Prelude.{ℕ, List, [], ◌∷◌, ◌++◌, Option, Some, None, slice_get}
use Rattle.pp_prog.specs.declared.expr.Expr.{Expr}
use Rattle.pp_prog.specs.declared.expr.Case.{Case}
use Rattle.pp_prog.specs.declared.expr.Expr.TheFolds.{fold-Case, fold-Expr}
use Rattle.pp_prog.specs.declared.expr.Expr.TheOpen as layer
use Rattle.pp_prog.specs.declared.expr.Function.{Function}
use Rattle.pp_prog.specs.declared.expr.Pattern.{Pattern}
use Rattle.pp_prog.specs.declared.expr.Pattern.TheFolds.{fold-Pattern}
use Rattle.pp_prog.specs.declared.expr.Pattern.TheOpen as pattern
use Rattle.pp_tree.specs.declared.operator.UnaryOp.{UnaryOp}
use Rattle.pp_tree.specs.declared.operator.UnaryOp.TheVariants.{Not}
use Rattle.pp_prog.specs.declared.sort.Sort.{Sort}
use Rattle.pp_prog.specs.declared.sort.Sort.TheVariants as sort
use Rattle.pp_prog.specs.declared.types.Ctor.{Ctor}
use Rattle.pp_prog.specs.declared.types.Datatype.{Datatype}
use Rattle.pp_prog.specs.declared.types.TypeTable.{TypeTable}
use Rattle.pp_prog.specs.ExprSorts.{gives}

-- where no sort can be read off, Int stands in its place
abbrev pub or_int : Option Sort → Sort
or_int None = sort.Int
or_int (Some s) = s

-- the sort at this place of the scope
abbrev pub sort_at : List Sort → ℕ → Sort
sort_at scope i = or_int (slice_get scope i)

abbrev pub unary_result : UnaryOp → Sort
unary_result Not = sort.Bool
unary_result op = sort.Int

abbrev pub tree_result : Option Ctor → Sort
tree_result None = sort.Int
tree_result (Some c) = sort.Tree c.of

abbrev pub call_result : Option Function → Sort
call_result None = sort.Int
call_result (Some f) = f.result

abbrev pub fields_of_ctor : Option Ctor → List Sort
fields_of_ctor None = []
fields_of_ctor (Some c) = c.fields

-- the first constructor of a datatype
abbrev pub first_ctor : List Ctor → Option Datatype → Option Ctor
first_ctor ctors None = None
first_ctor ctors (Some t) = slice_get ctors t.first.0

module _ (types : TypeTable) where
  -- the sort of field k of a tree, whose datatype has one constructor
  abbrev pub field_result : Sort → ℕ → Sort
  field_result sort.Int k = sort.Int
  field_result sort.Bool k = sort.Int
  field_result (sort.Tree d) k = sort_at (fields_of_ctor (first_ctor types.ctors (slice_get types.datatypes d.0))) k

-- what a pattern is: the sorts of its variables, at a sort
abbrev pub Binds : Type 0
Binds = Sort → List Sort

abbrev pub bind_each : List Binds → List Sort → List Sort
bind_each [] ss = []
bind_each (p ∷ ps) [] = []
bind_each (p ∷ ps) (s ∷ ss) = p s ++ bind_each ps ss

module _ (ctors : List Ctor) where
  -- one level, with the inner patterns' sorts in their place
  abbrev pub binds_step : pattern.Pattern-F Binds → Binds
  binds_step pattern.Any s = []
  binds_step (pattern.Bind inner) s = s ∷ inner s
  binds_step (pattern.Int n) s = []
  binds_step (pattern.Bool b) s = []
  binds_step (pattern.Ctor c patterns) s = bind_each patterns (fields_of_ctor (slice_get ctors c.0))

  -- the sorts of the variables that the pattern binds at a value of this sort
  abbrev pub binds : Pattern → Sort → List Sort
  binds = fold-Pattern Binds binds_step

-- what an expression is: its sort, with the sorts of the variables in scope
abbrev pub Result : Type 0
Result = List Sort → Sort

-- what a case is: its pattern and the sort of its body
abbrev pub Body : Type 0
Body = Pattern × Result

abbrev pub body_step : layer.Case-F Result Body → Body
body_step c = (c.pattern, c.body)

module _ (types : TypeTable) (functions : List Function) where
  -- the sort of the first case's body, at a matched value of sort s
  abbrev pub first_result : List Body → Sort → Result
  first_result [] s scope = sort.Int
  first_result (b ∷ bs) s scope = b.1 (scope ++ binds types.ctors b.0 s)

  -- one level, with the sorts of the parts in their place
  abbrev pub result_step : layer.Expr-F Result Body → Result
  result_step (layer.Int n) scope = sort.Int
  result_step (layer.Bool b) scope = sort.Bool
  result_step (layer.Var i) scope = sort_at scope i
  result_step (layer.Unary op a) scope = unary_result op
  result_step (layer.Binary op a b check) scope = gives op (a scope)
  result_step (layer.Construct c args) scope = tree_result (slice_get types.ctors c.0)
  result_step (layer.Field e k) scope = field_result types (e scope) k
  result_step (layer.If c a b) scope = a scope
  result_step (layer.Match e cases check) scope = first_result cases (e scope) scope
  result_step (layer.Val bound rest) scope = rest (scope ++ bound scope ∷ [])
  result_step (layer.Assert check c rest) scope = rest scope
  result_step (layer.Call g args pre measure) scope = call_result (slice_get functions g.0)

  -- the sort of an expression, with the sorts of the variables in scope
  abbrev pub result_of : Expr → List Sort → Sort
  result_of = fold-Expr Result Body result_step body_step

  -- a case, with the sort of its body
  abbrev pub body : Case → Body
  body = fold-Case Result Body result_step body_step
