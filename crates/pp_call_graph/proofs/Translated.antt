-- What a typed expression calls is what the expression of the program calls that it is.
use Rattle.std.proofs.Common.{◌≡◌, ℕ, List, [], ◌∷◌, ◌++◌, map, Option, Some, None, refl, sym, ap, ◌∙◌, subst}
use Rattle.pp_typed.specs.Parts.{case_parts}
use Rattle.pp_list.specs.Joined.{joined}
use Rattle.pp_call_graph.proofs.Conditions.{both_parts}
use Rattle.pp_prog.proofs.CallForms.{calls_of_int, calls_of_bool, calls_of_var, calls_of_unary, calls_of_binary}
use Rattle.pp_prog.proofs.CallForms.{calls_of_construct, calls_of_field, calls_of_if, calls_of_match, calls_of_val}
use Rattle.pp_prog.proofs.CallForms.{calls_of_assert, calls_of_call, calls_of_case}
use Rattle.pp_call_graph.specs.TypedCalls as typed_side
use Rattle.pp_call_graph.specs.TypedCalls.{case_calls, kind_calls, typed_calls}
use Rattle.pp_instances.specs.declared.member.Member.{Member}
use Rattle.pp_prog.specs.Calls.{calls, calls_in_case}
use Rattle.pp_prog.specs.declared.expr.Case.{Case}
use Rattle.pp_prog.specs.declared.expr.Expr.{Expr}
use Rattle.pp_translation.specs.Exprs.{CaseAt, Translated, case_for, case_step, expr_at, expr_of, expr_step, kind_step}
use Rattle.pp_translation.specs.Exprs.{translated, unnumbered}
use Rattle.pp_translation.specs.Numbers.{ctor_number, function_number}
use Rattle.pp_translation.specs.Patterns.{pattern_at}
use Rattle.pp_typed.specs.Put.{put}
use Rattle.pp_typed.specs.declared.expr.TypedCase.{TypedCase}
use Rattle.pp_typed.specs.declared.expr.TypedExpr.{TypedExpr}
use Rattle.pp_typed.specs.declared.expr.TypedKind.{TypedKind}
use Rattle.pp_typed.specs.declared.expr.TypedKind.TheFolds.{fold-TypedCase, fold-TypedKind, fold-roll-TypedCase}
use Rattle.pp_typed.specs.declared.expr.TypedKind.TheFolds.{fold-roll-TypedExpr, fold-roll-TypedKind, ind-TypedExpr}
use Rattle.pp_typed.specs.declared.expr.TypedKind.TheFolds.{map-TypedCase, map-TypedExpr, map-TypedKind}
use Rattle.pp_typed.specs.declared.expr.TypedKind.TheOpen as layer
use Rattle.pp_typed.specs.declared.expr.TypedKind.TheViews.{roll-TypedCase, roll-TypedExpr, roll-TypedKind}
use Rattle.pp_typed.specs.declared.pattern.TypedPattern.{TypedPattern}
use Rattle.pp_typed.specs.declared.sort.GenericSort.{GenericSort}
use Rattle.pp_typed.specs.declared.typed.Typed.{Typed}

abbrev Ns : Type 0
Ns = List ℕ

module _ (typed : Typed) (roots functions : List Member) (args : List GenericSort) where
  abbrev in_kind : TypedKind → Expr
  in_kind = fold-TypedKind Expr CaseAt Translated (kind_step typed roots functions args)
      (case_step typed roots functions args) (expr_step typed roots functions args)

  abbrev in_case : TypedCase → CaseAt
  in_case = fold-TypedCase Expr CaseAt Translated (kind_step typed roots functions args)
      (case_step typed roots functions args) (expr_step typed roots functions args)

  abbrev in_expr : TypedExpr → Translated
  in_expr = translated typed roots functions args

  abbrev OfKind : TypedKind → Type 0
  OfKind k = calls (in_kind k) ≡ kind_calls functions args k

  abbrev OfCase : TypedCase → Type 0
  OfCase c = (s : GenericSort) → calls_in_case (in_case c s) ≡ case_calls functions args c

  abbrev OfExpr : TypedExpr → Type 0
  OfExpr e = calls (expr_at typed roots functions args e) ≡ typed_calls functions args e

  abbrev K : Type 0
  K = (k : TypedKind) × OfKind k

  abbrev C : Type 0
  C = (c : TypedCase) × OfCase c

  abbrev E : Type 0
  E = (e : TypedExpr) × OfExpr e

  abbrev each_at : List TypedExpr → List Expr
  each_at es = map expr_of (map in_expr es)

  each : (ys : List E) → map calls (each_at (map (λ z. z.0) ys)) ≡ map (typed_calls functions args) (map (λ z. z.0) ys)
  each [] = refl
  each (y ∷ ys) =
      ap (λ (l : Ns). l ∷ map calls (each_at (map (λ z. z.0) ys))) y.1
      ∙ ap (λ (l : List Ns). typed_calls functions args y.0 ∷ l) (each ys)

  abbrev cases_at : GenericSort → List TypedCase → List Case
  cases_at s cs = map (case_for s) (map in_case cs)

  each_case : (s : GenericSort) (ys : List C)
      → map calls_in_case (cases_at s (map (λ z. z.0) ys)) ≡ map (case_calls functions args) (map (λ z. z.0) ys)
  each_case s [] = refl
  each_case s (y ∷ ys) =
      ap (λ (l : Ns). l ∷ map calls_in_case (cases_at s (map (λ z. z.0) ys))) (y.1 s)
      ∙ ap (λ (l : List Ns). case_calls functions args y.0 ∷ l) (each_case s ys)

  abbrev kind_below : layer.TypedKind-F K C E → layer.TypedKind-F TypedKind TypedCase TypedExpr
  kind_below = map-TypedKind K C E TypedKind TypedCase TypedExpr (λ z. z.0) (λ z. z.0) (λ z. z.0)

  level : (y : layer.TypedKind-F K C E)
      → calls (kind_step typed roots functions args
      (map-TypedKind TypedKind TypedCase TypedExpr Expr CaseAt Translated in_kind in_case in_expr (kind_below y)))
      ≡ typed_side.kind_step functions args
      (map-TypedKind TypedKind TypedCase TypedExpr Ns Ns Ns (kind_calls functions args) (case_calls functions args)
      (typed_calls functions args) (kind_below y))
  level (layer.Int n) = calls_of_int n
  level (layer.Bool b) = calls_of_bool b
  level (layer.Local i) = calls_of_var i
  level (layer.Call f sorts es) =
      let g = function_number functions f (map (put args) sorts) in
      calls_of_call g (each_at (map (λ z. z.0) es)) None None ∙ ap (λ (l : List Ns). joined l ++ g.0 ∷ []) (each es)
  level (layer.Construct c sorts es) =
      calls_of_construct (ctor_number typed.ctors roots c (map (put args) sorts)) (each_at (map (λ z. z.0) es))
      ∙ ap joined (each es)
  level (layer.Field e j) = calls_of_field (in_expr e.0).1 j ∙ e.1
  level (layer.Unary op a) = calls_of_unary op (in_expr a.0).1 ∙ a.1
  level (layer.Binary op a b) =
      calls_of_binary op (in_expr a.0).1 (in_expr b.0).1 None ∙ both_parts a.1 b.1
  level (layer.If c a b) =
      calls_of_if (in_expr c.0).1 (in_expr a.0).1 (in_expr b.0).1 ∙ both_parts (both_parts c.1 a.1) b.1
  level (layer.Match e cases) =
      calls_of_match (in_expr e.0).1 (cases_at (in_expr e.0).0 (map (λ z. z.0) cases)) None
      ∙ both_parts e.1 (ap joined (each_case (in_expr e.0).0 cases))
  level (layer.Val a b) = calls_of_val (in_expr a.0).1 (in_expr b.0).1 ∙ both_parts a.1 b.1
  level (layer.Assert c rest) =
      calls_of_assert unnumbered (in_expr c.0).1 (in_expr rest.0).1 ∙ both_parts c.1 rest.1

  at_kind : (y : layer.TypedKind-F K C E) → OfKind (roll-TypedKind (kind_below y))
  at_kind y =
      ap calls (fold-roll-TypedKind Expr CaseAt Translated (kind_step typed roots functions args)
      (case_step typed roots functions args) (expr_step typed roots functions args) (kind_below y))
      ∙ level y
      ∙ sym (fold-roll-TypedKind Ns Ns Ns (typed_side.kind_step functions args) case_parts
      (typed_side.expr_step functions args) (kind_below y))

  abbrev case_below : layer.TypedCase-F K C E → layer.TypedCase-F TypedKind TypedCase TypedExpr
  case_below = map-TypedCase K C E TypedKind TypedCase TypedExpr (λ z. z.0) (λ z. z.0) (λ z. z.0)

  at_parts : (p : TypedPattern) (o : Option E) (b : E) (s : GenericSort)
      → let y : layer.TypedCase-F K C E = record { pattern = p; guard = o; body = b } in
      calls_in_case (case_step typed roots functions args
      (map-TypedCase TypedKind TypedCase TypedExpr Expr CaseAt Translated in_kind in_case in_expr (case_below y)) s)
      ≡ case_parts
      (map-TypedCase TypedKind TypedCase TypedExpr Ns Ns Ns (kind_calls functions args) (case_calls functions args)
      (typed_calls functions args) (case_below y))
  at_parts p None b s =
      calls_of_case (record { pattern = pattern_at typed roots p s; guard = None; body = (in_expr b.0).1 }) ∙ b.1
  at_parts p (Some g) b s =
      calls_of_case (record {
        pattern = pattern_at typed roots p s;
        guard = Some (in_expr g.0).1;
        body = (in_expr b.0).1;
      })
      ∙ both_parts g.1 b.1

  at_case : (y : layer.TypedCase-F K C E) → OfCase (roll-TypedCase (case_below y))
  at_case y s =
      ap (λ (f : CaseAt). calls_in_case (f s))
      (fold-roll-TypedCase Expr CaseAt Translated (kind_step typed roots functions args)
      (case_step typed roots functions args) (expr_step typed roots functions args) (case_below y))
      ∙ at_parts y.pattern y.guard y.body s
      ∙ sym (fold-roll-TypedCase Ns Ns Ns (typed_side.kind_step functions args) case_parts
      (typed_side.expr_step functions args) (case_below y))

  abbrev expr_below : layer.TypedExpr-F K C E → layer.TypedExpr-F TypedKind TypedCase TypedExpr
  expr_below = map-TypedExpr K C E TypedKind TypedCase TypedExpr (λ z. z.0) (λ z. z.0) (λ z. z.0)

  at_expr : (y : layer.TypedExpr-F K C E) → OfExpr (roll-TypedExpr (expr_below y))
  at_expr y =
      ap (λ (t : Translated). calls t.1)
      (fold-roll-TypedExpr Expr CaseAt Translated (kind_step typed roots functions args)
      (case_step typed roots functions args) (expr_step typed roots functions args) (expr_below y))
      ∙ y.kind.1
      ∙ sym (fold-roll-TypedExpr Ns Ns Ns (typed_side.kind_step functions args) case_parts
      (typed_side.expr_step functions args) (expr_below y))

  -- what a typed expression calls is what its translation calls
  pub calls_of_translation : (e : TypedExpr)
      → calls (expr_at typed roots functions args e) ≡ typed_calls functions args e
  calls_of_translation =
      ind-TypedExpr OfKind OfCase OfExpr (λ x y is. subst (λ z. OfKind (roll-TypedKind z)) is (at_kind y))
      (λ x y is. subst (λ z. OfCase (roll-TypedCase z)) is (at_case y))
      (λ x y is. subst (λ z. OfExpr (roll-TypedExpr z)) is (at_expr y))

  pub calls_of_translations : (es : List TypedExpr)
      → map calls (map (expr_at typed roots functions args) es) ≡ map (typed_calls functions args) es
  calls_of_translations [] = refl
  calls_of_translations (e ∷ es) =
      ap (λ (l : Ns). l ∷ map calls (map (expr_at typed roots functions args) es)) (calls_of_translation e)
      ∙ ap (λ (l : List Ns). typed_calls functions args e ∷ l) (calls_of_translations es)
