-- Which functions a function calls, contracts included, and which reach which. Source: own.
use Rattle.std.specs.Prelude.{ℕ, List, [], ◌∷◌, ◌++◌, map, Option, Some, None}
use Rattle.pp_list.specs.Joined.{joined}
use Rattle.pp_prog.specs.Parts.{case_parts, parts}
use Rattle.pp_prog.specs.declared.expr.Case.{Case}
use Rattle.pp_prog.specs.declared.expr.Expr.{Expr}
use Rattle.pp_prog.specs.declared.expr.Expr.TheFolds.{fold-Case, fold-Expr}
use Rattle.pp_prog.specs.declared.expr.Expr.TheOpen as layer
use Rattle.pp_prog.specs.declared.expr.Function.{Function}
use Rattle.pp_prog.specs.declared.id.CheckId.{CheckId}
use Rattle.pp_graph.specs.Reaches.{Reaches, SameGroup}

-- one level, with the calls of the parts in their place
abbrev pub calls_step : layer.Expr-F (List ℕ) (List ℕ) → List ℕ
calls_step (layer.Call g args pre measure) = joined args ++ g.0 ∷ []
calls_step y = parts y

-- the functions that an expression calls
abbrev pub calls : Expr → List ℕ
calls = fold-Expr (List ℕ) (List ℕ) calls_step case_parts

-- the functions that a case calls, in its guard and its body
abbrev pub calls_in_case : Case → List ℕ
calls_in_case = fold-Case (List ℕ) (List ℕ) calls_step case_parts

abbrev pub pre_calls : Option Expr → List ℕ
pre_calls None = []
pre_calls (Some pre) = calls pre

abbrev pub post_calls : Option (CheckId × Expr) → List ℕ
post_calls None = []
post_calls (Some post) = calls post.1

-- the functions that the contract of a function calls before its body: in its precondition and in its measure list
abbrev pub contract_calls : Function → List ℕ
contract_calls f = pre_calls f.pre ++ joined (map calls f.measure)

-- the functions that a function calls: in its precondition, its measure, its body and its postcondition
abbrev pub function_calls : Function → List ℕ
function_calls f = pre_calls f.pre ++ joined (map calls f.measure) ++ calls f.body ++ post_calls f.post

-- at each function's place, the functions that it calls
abbrev pub call_table : List Function → List (List ℕ)
call_table = map function_calls

-- a path of at least one call leads from the first function to the second
abbrev pub FunctionReaches : List Function → ℕ → ℕ → Type 0
FunctionReaches functions f g = Reaches (call_table functions) f g

-- the two functions are the same, or each reaches the other
abbrev pub OneGroup : List Function → ℕ → ℕ → Type 0
OneGroup functions f g = SameGroup (call_table functions) f g
