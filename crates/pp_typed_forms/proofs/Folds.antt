-- What a fold makes of each form of typed expression.
use Rattle.std.proofs.Common.{◌≡◌, ◌∙◌, ℕ, ℤ, Bool, List, Option, Some, None, map, option_map, refl, sym, ap}
use Rattle.pp_tree.specs.declared.operator.BinaryOp.{BinaryOp}
use Rattle.pp_tree.specs.declared.operator.UnaryOp.{UnaryOp}
use Rattle.pp_typed.specs.declared.expr.TypedCase.{TypedCase}
use Rattle.pp_typed.specs.declared.expr.TypedExpr.{TypedExpr, fold_out-TypedExpr}
use Rattle.pp_typed.specs.declared.expr.TypedKind.{TypedKind}
use Rattle.pp_typed.specs.declared.expr.TypedKind.TheFolds.{fold-TypedExpr, fold-TypedKind, fold-TypedCase}
use Rattle.pp_typed.specs.declared.expr.TypedKind.TheFolds.{fold-roll-TypedKind, fold-roll-TypedCase, map-TypedCase}
use Rattle.pp_typed.specs.declared.expr.TypedKind.TheOpen as layer
use Rattle.pp_typed.specs.declared.expr.TypedKind.TheVariants as kind
use Rattle.pp_typed.specs.declared.expr.TypedKind.TheViews.{roll-TypedCase}
use Rattle.pp_typed.specs.declared.pattern.TypedPattern.{TypedPattern}
use Rattle.pp_typed.specs.declared.sort.GenericSort.{GenericSort}

module _ {K C E : Type 0} (k : layer.TypedKind-F K C E → K) (c : layer.TypedCase-F K C E → C)
    (e : layer.TypedExpr-F K C E → E) where
  abbrev pub of_kind : TypedKind → K
  of_kind = fold-TypedKind K C E k c e

  abbrev pub of_case : TypedCase → C
  of_case = fold-TypedCase K C E k c e

  abbrev pub of_expr : TypedExpr → E
  of_expr = fold-TypedExpr K C E k c e

  pub expr_is : (u : TypedExpr) → of_expr u ≡ e
      (record { source = u.source; at = u.at; of = u.of; kind = of_kind u.kind })
  expr_is u = fold_out-TypedExpr K C E k c e u

  mapped : (p : TypedPattern) (g : Option TypedExpr) (b : TypedExpr)
      → map-TypedCase TypedKind TypedCase TypedExpr K C E of_kind of_case of_expr
      (record { pattern = p; guard = g; body = b })
      ≡ record { pattern = p; guard = option_map of_expr g; body = of_expr b }
  mapped p None b = refl
  mapped p (Some g) b = refl

  pub case_is : (p : TypedPattern) (g : Option TypedExpr) (b : TypedExpr)
      → of_case (roll-TypedCase (record { pattern = p; guard = g; body = b }))
      ≡ c (record { pattern = p; guard = option_map of_expr g; body = of_expr b })
  case_is p g b = fold-roll-TypedCase K C E k c e (record { pattern = p; guard = g; body = b }) ∙ ap c (mapped p g b)

  pub int_is : (n : ℤ) → of_kind (kind.Int n) ≡ k (layer.Int n)
  int_is n = ap of_kind (sym (kind.rolls-Int n)) ∙ fold-roll-TypedKind K C E k c e (layer.Int n)

  pub bool_is : (b : Bool) → of_kind (kind.Bool b) ≡ k (layer.Bool b)
  bool_is b = ap of_kind (sym (kind.rolls-Bool b)) ∙ fold-roll-TypedKind K C E k c e (layer.Bool b)

  pub local_is : (i : ℕ) → of_kind (kind.Local i) ≡ k (layer.Local i)
  local_is i = ap of_kind (sym (kind.rolls-Local i)) ∙ fold-roll-TypedKind K C E k c e (layer.Local i)

  pub call_is : (f : ℕ) (ss : List GenericSort) (us : List TypedExpr)
      → of_kind (kind.Call f ss us) ≡ k (layer.Call f ss (map of_expr us))
  call_is f ss us = ap of_kind (sym (kind.rolls-Call f ss us)) ∙ fold-roll-TypedKind K C E k c e (layer.Call f ss us)

  pub construct_is : (f : ℕ) (ss : List GenericSort) (us : List TypedExpr)
      → of_kind (kind.Construct f ss us) ≡ k (layer.Construct f ss (map of_expr us))
  construct_is f ss us = ap of_kind (sym (kind.rolls-Construct f ss us))
      ∙ fold-roll-TypedKind K C E k c e (layer.Construct f ss us)

  pub field_is : (u : TypedExpr) (j : ℕ) → of_kind (kind.Field u j) ≡ k (layer.Field (of_expr u) j)
  field_is u j = ap of_kind (sym (kind.rolls-Field u j)) ∙ fold-roll-TypedKind K C E k c e (layer.Field u j)

  pub unary_is : (op : UnaryOp) (u : TypedExpr) → of_kind (kind.Unary op u) ≡ k (layer.Unary op (of_expr u))
  unary_is op u = ap of_kind (sym (kind.rolls-Unary op u)) ∙ fold-roll-TypedKind K C E k c e (layer.Unary op u)

  pub binary_is : (op : BinaryOp) (u v : TypedExpr)
      → of_kind (kind.Binary op u v) ≡ k (layer.Binary op (of_expr u) (of_expr v))
  binary_is op u v = ap of_kind (sym (kind.rolls-Binary op u v)) ∙ fold-roll-TypedKind K C E k c e (layer.Binary op u v)

  pub if_is : (t u v : TypedExpr) → of_kind (kind.If t u v) ≡ k (layer.If (of_expr t) (of_expr u) (of_expr v))
  if_is t u v = ap of_kind (sym (kind.rolls-If t u v)) ∙ fold-roll-TypedKind K C E k c e (layer.If t u v)

  pub match_is : (u : TypedExpr) (cs : List TypedCase)
      → of_kind (kind.Match u cs) ≡ k (layer.Match (of_expr u) (map of_case cs))
  match_is u cs = ap of_kind (sym (kind.rolls-Match u cs)) ∙ fold-roll-TypedKind K C E k c e (layer.Match u cs)

  pub val_is : (u v : TypedExpr) → of_kind (kind.Val u v) ≡ k (layer.Val (of_expr u) (of_expr v))
  val_is u v = ap of_kind (sym (kind.rolls-Val u v)) ∙ fold-roll-TypedKind K C E k c e (layer.Val u v)

  pub assert_is : (u v : TypedExpr) → of_kind (kind.Assert u v) ≡ k (layer.Assert (of_expr u) (of_expr v))
  assert_is u v = ap of_kind (sym (kind.rolls-Assert u v)) ∙ fold-roll-TypedKind K C E k c e (layer.Assert u v)
