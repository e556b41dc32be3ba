-- Functions with the numbers of their checks left out. Which sites carry a check, and with which number, is said by the
-- validity of the program. Source: own.
use Rattle.std.specs.Prelude.{map, Option, Some, None}
use Rattle.std.specs.Option.{option_map}
use Rattle.pp_translation.specs.Exprs.{unnumbered}
use Rattle.pp_prog.specs.declared.expr.Case.{Case}
use Rattle.pp_prog.specs.declared.expr.Expr.{Expr}
use Rattle.pp_prog.specs.declared.expr.Expr.TheFolds.{fold-Case, fold-Expr}
use Rattle.pp_prog.specs.declared.expr.Expr.TheOpen as layer
use Rattle.pp_prog.specs.declared.expr.Expr.TheVariants as expr
use Rattle.pp_prog.specs.declared.expr.Function.{Function}
use Rattle.pp_prog.specs.declared.id.CheckId.{CheckId}

-- one level, with the parts in their place
abbrev pub bare_step : layer.Expr-F Expr Case → Expr
bare_step (layer.Int n) = expr.Int n
bare_step (layer.Bool b) = expr.Bool b
bare_step (layer.Var i) = expr.Var i
bare_step (layer.Unary op a) = expr.Unary op a
bare_step (layer.Binary op a b check) = expr.Binary op a b None
bare_step (layer.Construct c args) = expr.Construct c args
bare_step (layer.Field e k) = expr.Field e k
bare_step (layer.If c a b) = expr.If c a b
bare_step (layer.Match e cases check) = expr.Match e cases None
bare_step (layer.Val bound rest) = expr.Val bound rest
bare_step (layer.Assert check c rest) = expr.Assert unnumbered c rest
bare_step (layer.Call g args pre measure) = expr.Call g args None None

abbrev pub bare_case : layer.Case-F Expr Case → Case
bare_case c = record { pattern = c.pattern; guard = c.guard; body = c.body }

-- the expression without the numbers of its checks
abbrev pub bare : Expr → Expr
bare = fold-Expr Expr Case bare_step bare_case

-- the case without the numbers of its checks
abbrev pub bare_of_case : Case → Case
bare_of_case = fold-Case Expr Case bare_step bare_case

abbrev pub bare_post : Option (CheckId × Expr) → Option (CheckId × Expr)
bare_post None = None
bare_post (Some post) = Some (unnumbered, bare post.1)

-- the function without the numbers of its checks
abbrev pub bare_function : Function → Function
bare_function f = record {
  name = f.name;
  place = f.place;
  params = f.params;
  result = f.result;
  pre = option_map bare f.pre;
  measure = map bare f.measure;
  body = bare f.body;
  post = bare_post f.post;
}
