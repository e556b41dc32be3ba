-- Which functions of a program typed functions call at the type arguments of an instance, contracts included, in the
-- order in which their translations call them. Source: own.
use Rattle.std.specs.Prelude.{ℕ, List, [], ◌∷◌, ◌++◌, map, Option, Some, None, slice_get}
use Rattle.pp_list.specs.Joined.{joined}
use Rattle.pp_instances.specs.declared.member.Instance.{Instance}
use Rattle.pp_instances.specs.declared.member.Member.{Member}
use Rattle.pp_translation.specs.Numbers.{function_number}
use Rattle.pp_typed.specs.Parts.{case_parts, kind_parts}
use Rattle.pp_typed.specs.Put.{put}
use Rattle.pp_typed.specs.declared.expr.TypedCase.{TypedCase}
use Rattle.pp_typed.specs.declared.expr.TypedExpr.{TypedExpr}
use Rattle.pp_typed.specs.declared.expr.TypedKind.{TypedKind}
use Rattle.pp_typed.specs.declared.expr.TypedKind.TheFolds.{fold-TypedCase, fold-TypedExpr, fold-TypedKind}
use Rattle.pp_typed.specs.declared.expr.TypedKind.TheOpen as layer
use Rattle.pp_typed.specs.declared.sort.GenericSort.{GenericSort}
use Rattle.pp_typed.specs.declared.typed.Typed.{Typed}
use Rattle.pp_typed.specs.declared.typed.TypedDef.{TypedDef}
use Rattle.pp_typed.specs.declared.typed.TypedPost.{TypedPost}

-- among the functions of a program, at the type arguments of an instance
module _ (functions : List Member) (args : List GenericSort) where
  -- the number of the function that a call names with its own type arguments
  abbrev pub callee : ℕ → List GenericSort → ℕ
  callee f sorts = (function_number functions f (map (put args) sorts)).0

  -- one level, with the calls of the parts in their place
  abbrev pub kind_step : layer.TypedKind-F (List ℕ) (List ℕ) (List ℕ) → List ℕ
  kind_step (layer.Call f sorts es) = joined es ++ callee f sorts ∷ []
  kind_step y = kind_parts y

  abbrev pub expr_step : layer.TypedExpr-F (List ℕ) (List ℕ) (List ℕ) → List ℕ
  expr_step e = e.kind

  -- the functions that an expression calls
  abbrev pub typed_calls : TypedExpr → List ℕ
  typed_calls = fold-TypedExpr (List ℕ) (List ℕ) (List ℕ) kind_step case_parts expr_step

  -- the functions that a case calls, in its guard and its body
  abbrev pub case_calls : TypedCase → List ℕ
  case_calls = fold-TypedCase (List ℕ) (List ℕ) (List ℕ) kind_step case_parts expr_step

  -- the functions that are called below an expression
  abbrev pub kind_calls : TypedKind → List ℕ
  kind_calls = fold-TypedKind (List ℕ) (List ℕ) (List ℕ) kind_step case_parts expr_step

  -- the functions that expressions call, and that cases call
  abbrev pub all_calls : List TypedExpr → List ℕ
  all_calls es = joined (map typed_calls es)

  abbrev pub all_case_calls : List TypedCase → List ℕ
  all_case_calls cases = joined (map case_calls cases)

  abbrev pub guard_calls : Option TypedExpr → List ℕ
  guard_calls None = []
  guard_calls (Some guard) = typed_calls guard

  abbrev pub post_calls : Option TypedPost → List ℕ
  post_calls None = []
  post_calls (Some post) = typed_calls post.claim

  -- the functions that a function calls: in its preconditions, its measure, its body and its postcondition
  abbrev pub def_calls : TypedDef → List ℕ
  def_calls d = all_calls d.pre ++ all_calls d.measure ++ typed_calls d.body ++ post_calls d.post

  abbrev pub row_if : Option TypedDef → List (List ℕ)
  row_if None = []
  row_if (Some d) = def_calls d ∷ []

-- the row of an instance: what its function calls. An instance of no function has no row
abbrev pub row_at : Typed → List Member → Instance → List (List ℕ)
row_at typed functions i = row_if functions i.args (slice_get typed.defs i.number)

-- the rows of instances
abbrev pub calls_at : Typed → List Member → List Instance → List (List ℕ)
calls_at typed functions [] = []
calls_at typed functions (i ∷ is) = row_at typed functions i ++ calls_at typed functions is
