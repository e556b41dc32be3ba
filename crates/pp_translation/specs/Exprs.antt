-- The expression of a program that a typed expression is at type arguments, with the numbers of checks left out: where
-- a site may have none it has none, and where it has one it is 0. Source: own.
use Rattle.std.specs.Prelude.{List, map, None}
use Rattle.std.specs.Option.{option_map}
use Rattle.pp_instances.specs.declared.member.Member.{Member}
use Rattle.pp_translation.specs.Numbers.{ctor_number, function_number}
use Rattle.pp_translation.specs.Patterns.{pattern_at}
use Rattle.pp_prog.specs.declared.expr.Case.{Case}
use Rattle.pp_prog.specs.declared.expr.Expr.{Expr}
use Rattle.pp_prog.specs.declared.expr.Expr.TheVariants as prog
use Rattle.pp_prog.specs.declared.id.CheckId.{CheckId}
use Rattle.pp_typed.specs.Put.{put}
use Rattle.pp_typed.specs.declared.expr.TypedExpr.{TypedExpr}
use Rattle.pp_typed.specs.declared.expr.TypedKind.TheFolds.{fold-TypedExpr}
use Rattle.pp_typed.specs.declared.expr.TypedKind.TheOpen as layer
use Rattle.pp_typed.specs.declared.sort.GenericSort.{GenericSort}
use Rattle.pp_typed.specs.declared.typed.Typed.{Typed}

-- a check whose number is left out
abbrev pub unnumbered : CheckId
unnumbered = record { 0 = 0 }

-- what an expression is: its sort, without type parameters, and the expression of the program
abbrev pub Translated : Type 0
Translated = GenericSort × Expr

-- what a case is: a case of the program, at the sort of the matched value
abbrev pub CaseAt : Type 0
CaseAt = GenericSort → Case

abbrev pub expr_of : Translated → Expr
expr_of e = e.1

abbrev pub case_for : GenericSort → CaseAt → Case
case_for s c = c s

-- at the type arguments of an instance, among the datatypes and the functions of a program
module _ (typed : Typed) (roots functions : List Member) (args : List GenericSort) where
  -- one level, with the parts in their place
  abbrev pub kind_step : layer.TypedKind-F Expr CaseAt Translated → Expr
  kind_step (layer.Int n) = prog.Int n
  kind_step (layer.Bool b) = prog.Bool b
  kind_step (layer.Local i) = prog.Var i
  kind_step (layer.Call f sorts es) =
      prog.Call (function_number functions f (map (put args) sorts)) (map expr_of es) None None
  kind_step (layer.Construct c sorts es) =
      prog.Construct (ctor_number typed.ctors roots c (map (put args) sorts)) (map expr_of es)
  kind_step (layer.Field e j) = prog.Field e.1 j
  kind_step (layer.Unary op a) = prog.Unary op a.1
  kind_step (layer.Binary op a b) = prog.Binary op a.1 b.1 None
  kind_step (layer.If c a b) = prog.If c.1 a.1 b.1
  kind_step (layer.Match e cases) = prog.Match e.1 (map (case_for e.0) cases) None
  kind_step (layer.Val bound rest) = prog.Val bound.1 rest.1
  kind_step (layer.Assert c rest) = prog.Assert unnumbered c.1 rest.1

  abbrev pub case_step : layer.TypedCase-F Expr CaseAt Translated → CaseAt
  case_step c s = record {
    pattern = pattern_at typed roots c.pattern s;
    guard = option_map expr_of c.guard;
    body =
        c.body.1;
  }

  abbrev pub expr_step : layer.TypedExpr-F Expr CaseAt Translated → Translated
  expr_step e = (put args e.of, e.kind)

  abbrev pub translated : TypedExpr → Translated
  translated = fold-TypedExpr Expr CaseAt Translated kind_step case_step expr_step

  -- the expression of the program
  abbrev pub expr_at : TypedExpr → Expr
  expr_at e = expr_of (translated e)
