-- A typed expression has as many marks as the sites of the expression that it is, with their kinds and at their
-- offsets.
use Rattle.std.proofs.Common.{◌≡◌, List, [], ◌∷◌, map, Option, Some, None, sym, ap, subst, Bool, true, false}
use Rattle.pp_typed.specs.Parts.{case_parts, kind_parts}
use Rattle.pp_list.specs.Joined.{joined}
use Rattle.pp_check_places.proofs.Marked.{IsMarked, around_marked, call_marked, division_marked, last_marked}
use Rattle.pp_check_places.proofs.Marked.{none_marked, two_marked, under_marked, with_kinds}
use Rattle.pp_check_places.proofs.SiteKinds.{Kinds, case_kinds, division_kinds, kinds, operator_kinds, kinds_assert}
use Rattle.pp_check_places.proofs.SiteKinds.{kinds_binary, kinds_bool, kinds_call, kinds_construct, kinds_field}
use Rattle.pp_check_places.proofs.SiteKinds.{kinds_if, kinds_in_case, kinds_int, kinds_match, kinds_unary, kinds_val}
use Rattle.pp_check_places.proofs.SiteKinds.{kinds_var}
use Rattle.pp_instances.specs.declared.member.Member.{Member}
use Rattle.pp_prog.specs.declared.expr.Expr.{Expr}
use Rattle.pp_translation.specs.Exprs.{CaseAt, Translated, case_for, expr_at, expr_of, translated, unnumbered}
use Rattle.pp_translation.specs.Exprs as exprs
use Rattle.pp_translation.specs.Numbers.{ctor_number, function_number}
use Rattle.pp_translation.specs.Patterns.{pattern_at}
use Rattle.pp_translation.specs.Places as places
use Rattle.pp_translation.specs.Places.{division_offset, operator_offset, site_offsets}
use Rattle.pp_operators.specs.Classes.{is_division}
use Rattle.pp_tree.specs.declared.operator.BinaryOp.{BinaryOp}
use Rattle.pp_typed.specs.Apart.{Mark, a_match, an_assertion, case_marks, expr_marks, kind_marks, division_mark, marks}
use Rattle.pp_typed.specs.Apart.{operator_mark}
use Rattle.pp_typed.specs.Apart as apart
use Rattle.pp_typed.specs.Put.{put}
use Rattle.pp_typed.specs.Stand.{Offset, expr_offsets, offsets}
use Rattle.pp_typed.specs.declared.expr.TypedCase.{TypedCase}
use Rattle.pp_typed.specs.declared.expr.TypedExpr.{TypedExpr}
use Rattle.pp_typed.specs.declared.expr.TypedKind.{TypedKind}
use Rattle.pp_typed.specs.declared.expr.TypedKind.TheFolds.{fold-TypedCase, fold-TypedKind, ind-TypedExpr}
use Rattle.pp_typed.specs.declared.expr.TypedKind.TheFolds.{fold-roll-TypedCase, fold-roll-TypedExpr}
use Rattle.pp_typed.specs.declared.expr.TypedKind.TheFolds.{fold-roll-TypedKind, map-TypedCase, map-TypedExpr}
use Rattle.pp_typed.specs.declared.expr.TypedKind.TheFolds.{map-TypedKind}
use Rattle.pp_typed.specs.declared.expr.TypedKind.TheOpen as layer
use Rattle.pp_typed.specs.declared.expr.TypedKind.TheViews.{roll-TypedCase, roll-TypedExpr, roll-TypedKind}
use Rattle.pp_typed.specs.declared.pattern.TypedPattern.{TypedPattern}
use Rattle.pp_typed.specs.declared.sort.GenericSort.{GenericSort}
use Rattle.pp_typed.specs.declared.typed.Typed.{Typed}

marked_division : (b : Bool) (here : Offset)
    → IsMarked (division_mark b here) (division_offset b here) (division_kinds b) (here ∷ [])
marked_division true here = division_marked here
marked_division false here = none_marked (here ∷ [])

operator_marked : (op : BinaryOp) (here : Offset)
    → IsMarked (operator_mark op here) (operator_offset op here) (operator_kinds op) (here ∷ [])
operator_marked op here = marked_division (is_division op) here

abbrev Ms : Type 0
Ms = List Mark

abbrev Os : Type 0
Os = List Offset

-- the marks, the offsets of sites and all offsets of what stands below an expression, and those of a case
abbrev marks_below : TypedKind → apart.Below
marks_below = fold-TypedKind apart.Below Ms Ms kind_marks case_marks expr_marks

abbrev marks_in_case : TypedCase → Ms
marks_in_case = fold-TypedCase apart.Below Ms Ms kind_marks case_marks expr_marks

abbrev sites_below : TypedKind → places.Below
sites_below = fold-TypedKind places.Below Os Os places.kind_step places.case_step places.expr_step

abbrev sites_in_case : TypedCase → Os
sites_in_case = fold-TypedCase places.Below Os Os places.kind_step places.case_step places.expr_step

abbrev offsets_below : TypedKind → Os
offsets_below = fold-TypedKind Os Os Os kind_parts case_parts expr_offsets

abbrev offsets_in_case : TypedCase → Os
offsets_in_case = fold-TypedCase Os Os Os kind_parts case_parts expr_offsets

module _ (typed : Typed) (roots functions : List Member) (args : List GenericSort) where
  abbrev step : layer.TypedKind-F Expr CaseAt Translated → Expr
  step = exprs.kind_step typed roots functions args

  abbrev case_step : layer.TypedCase-F Expr CaseAt Translated → CaseAt
  case_step = exprs.case_step typed roots functions args

  abbrev expr_step : layer.TypedExpr-F Expr CaseAt Translated → Translated
  expr_step = exprs.expr_step typed roots functions args

  abbrev whole : TypedExpr → Translated
  whole = translated typed roots functions args

  abbrev in_kind : TypedKind → Expr
  in_kind = fold-TypedKind Expr CaseAt Translated step case_step expr_step

  abbrev in_case : TypedCase → CaseAt
  in_case = fold-TypedCase Expr CaseAt Translated step case_step expr_step

  abbrev IsMarkedKind : TypedKind → Type 0
  IsMarkedKind k =
      (here : Offset) → IsMarked (marks_below k here) (sites_below k here) (kinds (in_kind k)) (here ∷ offsets_below k)

  abbrev IsMarkedCase : TypedCase → Type 0
  IsMarkedCase c =
      (s : GenericSort) → IsMarked (marks_in_case c) (sites_in_case c) (case_kinds (in_case c s)) (offsets_in_case c)

  abbrev IsMarkedExpr : TypedExpr → Type 0
  IsMarkedExpr e = IsMarked (marks e) (site_offsets e) (kinds (expr_of (whole e))) (offsets e)

  abbrev T : Type 0
  T = (k : TypedKind) × IsMarkedKind k

  abbrev K : Type 0
  K = (c : TypedCase) × IsMarkedCase c

  abbrev E : Type 0
  E = (e : TypedExpr) × IsMarkedExpr e

  abbrev firsts : List E → List TypedExpr
  firsts ys = map (λ y. y.0) ys

  abbrev first_cases : List K → List TypedCase
  first_cases ys = map (λ y. y.0) ys

  all_marked : (ys : List E)
      → IsMarked (joined (map marks (firsts ys))) (joined (map site_offsets (firsts ys)))
      (joined (map kinds (map expr_of (map whole (firsts ys))))) (joined (map offsets (firsts ys)))
  all_marked [] = none_marked []
  all_marked (y ∷ ys) = two_marked y.1 (all_marked ys)

  cases_marked : (s : GenericSort) (ys : List K)
      → IsMarked (joined (map marks_in_case (first_cases ys))) (joined (map sites_in_case (first_cases ys)))
      (joined (map case_kinds (map (case_for s) (map in_case (first_cases ys)))))
      (joined (map offsets_in_case (first_cases ys)))
  cases_marked s [] = none_marked []
  cases_marked s (y ∷ ys) = two_marked (y.1 s) (cases_marked s ys)

  abbrev under : layer.TypedKind-F T K E → layer.TypedKind-F TypedKind TypedCase TypedExpr
  under y = map-TypedKind T K E TypedKind TypedCase TypedExpr (λ z. z.0) (λ z. z.0) (λ z. z.0) y

  abbrev told_marks : layer.TypedKind-F TypedKind TypedCase TypedExpr → apart.Below
  told_marks z =
      kind_marks (map-TypedKind TypedKind TypedCase TypedExpr apart.Below Ms Ms marks_below marks_in_case marks z)

  abbrev told_sites : layer.TypedKind-F TypedKind TypedCase TypedExpr → places.Below
  told_sites z =
      places.kind_step
      (map-TypedKind TypedKind TypedCase TypedExpr places.Below Os Os sites_below sites_in_case site_offsets z)

  abbrev told_offsets : layer.TypedKind-F TypedKind TypedCase TypedExpr → Os
  told_offsets z =
      kind_parts (map-TypedKind TypedKind TypedCase TypedExpr Os Os Os offsets_below offsets_in_case offsets z)

  abbrev told_expr : layer.TypedKind-F TypedKind TypedCase TypedExpr → Expr
  told_expr z = step (map-TypedKind TypedKind TypedCase TypedExpr Expr CaseAt Translated in_kind in_case whole z)

  level : (y : layer.TypedKind-F T K E) (here : Offset) → let z = under y in
      IsMarked (told_marks z here) (told_sites z here) (kinds (told_expr z)) (here ∷ told_offsets z)
  level (layer.Int n) here = with_kinds (none_marked (here ∷ [])) (kinds_int n)
  level (layer.Bool b) here = with_kinds (none_marked (here ∷ [])) (kinds_bool b)
  level (layer.Local i) here = with_kinds (none_marked (here ∷ [])) (kinds_var i)
  level (layer.Call f sorts es) here =
      with_kinds (last_marked here (all_marked es) (call_marked here))
      (kinds_call (function_number functions f (map (put args) sorts)) (map expr_of (map whole (firsts es))) None None)
  level (layer.Construct c sorts es) here =
      with_kinds (under_marked here (all_marked es))
      (kinds_construct (ctor_number typed.ctors roots c (map (put args) sorts)) (map expr_of (map whole (firsts es))))
  level (layer.Field e j) here = with_kinds (under_marked here e.1) (kinds_field (expr_of (whole e.0)) j)
  level (layer.Unary op a) here = with_kinds (under_marked here a.1) (kinds_unary op (expr_of (whole a.0)))
  level (layer.Binary op a b) here =
      with_kinds (last_marked here (two_marked a.1 b.1) (operator_marked op here))
      (kinds_binary op (expr_of (whole a.0)) (expr_of (whole b.0)) None)
  level (layer.If c a b) here =
      with_kinds (under_marked here (two_marked (two_marked c.1 a.1) b.1))
      (kinds_if (expr_of (whole c.0)) (expr_of (whole a.0)) (expr_of (whole b.0)))
  level (layer.Match e cases) here =
      with_kinds (around_marked a_match here e.1 (cases_marked (whole e.0).0 cases))
      (kinds_match (expr_of (whole e.0)) (map (case_for (whole e.0).0) (map in_case (first_cases cases))) None)
  level (layer.Val bound rest) here =
      with_kinds (under_marked here (two_marked bound.1 rest.1))
      (kinds_val (expr_of (whole bound.0)) (expr_of (whole rest.0)))
  level (layer.Assert c rest) here =
      with_kinds (around_marked an_assertion here c.1 rest.1)
      (kinds_assert unnumbered (expr_of (whole c.0)) (expr_of (whole rest.0)))

  -- the same, by four equations
  moved : {ms ms' : Ms} {os os' : Os} {ks ks' : Kinds} {all all' : Os} → ms' ≡ ms → os' ≡ os → ks' ≡ ks → all' ≡ all
      → IsMarked ms os ks all → IsMarked ms' os' ks' all'
  moved {ms} {ms'} {os} {os'} {ks} {ks'} {all} {all'} a b c d marked =
      subst (λ z. IsMarked z os' ks' all') (sym a) (subst (λ z. IsMarked ms z ks' all') (sym b)
      (subst (λ z. IsMarked ms os z all') (sym c) (subst (λ z. IsMarked ms os ks z) (sym d) marked)))

  at_level : (y : layer.TypedKind-F T K E) → IsMarkedKind (roll-TypedKind (under y))
  at_level y here =
      let z = under y in
      moved (ap (λ (f : apart.Below). f here)
      (fold-roll-TypedKind apart.Below Ms Ms kind_marks case_marks expr_marks z))
      (ap (λ (f : places.Below). f here)
      (fold-roll-TypedKind places.Below Os Os places.kind_step places.case_step places.expr_step z))
      (ap kinds (fold-roll-TypedKind Expr CaseAt Translated step case_step expr_step z))
      (ap (λ l. here ∷ l) (fold-roll-TypedKind Os Os Os kind_parts case_parts expr_offsets z)) (level y here)

  abbrev under_case : layer.TypedCase-F T K E → layer.TypedCase-F TypedKind TypedCase TypedExpr
  under_case y = map-TypedCase T K E TypedKind TypedCase TypedExpr (λ z. z.0) (λ z. z.0) (λ z. z.0) y

  case_level : (p : TypedPattern) (g : Option E) (b : E) (s : GenericSort)
      → let z = under_case (record { pattern = p; guard = g; body = b }) in
      IsMarked
      (case_marks
      (map-TypedCase TypedKind TypedCase TypedExpr apart.Below Ms Ms marks_below marks_in_case marks z))
      (places.case_step
      (map-TypedCase TypedKind TypedCase TypedExpr places.Below Os Os sites_below sites_in_case site_offsets z))
      (case_kinds
      (case_step (map-TypedCase TypedKind TypedCase TypedExpr Expr CaseAt Translated in_kind in_case whole z) s))
      (case_parts (map-TypedCase TypedKind TypedCase TypedExpr Os Os Os offsets_below offsets_in_case offsets z))
  case_level p None b s = with_kinds b.1 (kinds_in_case (pattern_at typed roots p s) None (expr_of (whole b.0)))
  case_level p (Some g) b s =
      with_kinds (two_marked g.1 b.1)
      (kinds_in_case (pattern_at typed roots p s) (Some (expr_of (whole g.0))) (expr_of (whole b.0)))

  at_case : (y : layer.TypedCase-F T K E) → IsMarkedCase (roll-TypedCase (under_case y))
  at_case y s =
      let z = under_case y in
      moved (fold-roll-TypedCase apart.Below Ms Ms kind_marks case_marks expr_marks z)
      (fold-roll-TypedCase places.Below Os Os places.kind_step places.case_step places.expr_step z)
      (ap (λ (f : CaseAt). case_kinds (f s)) (fold-roll-TypedCase Expr CaseAt Translated step case_step expr_step z))
      (fold-roll-TypedCase Os Os Os kind_parts case_parts expr_offsets z) (case_level y.pattern y.guard y.body s)

  abbrev under_expr : layer.TypedExpr-F T K E → layer.TypedExpr-F TypedKind TypedCase TypedExpr
  under_expr y = map-TypedExpr T K E TypedKind TypedCase TypedExpr (λ z. z.0) (λ z. z.0) (λ z. z.0) y

  at_expr : (y : layer.TypedExpr-F T K E) → IsMarkedExpr (roll-TypedExpr (under_expr y))
  at_expr y =
      let z = under_expr y in
      moved (fold-roll-TypedExpr apart.Below Ms Ms kind_marks case_marks expr_marks z)
      (fold-roll-TypedExpr places.Below Os Os places.kind_step places.case_step places.expr_step z)
      (ap (λ (t : Translated). kinds (expr_of t))
      (fold-roll-TypedExpr Expr CaseAt Translated step case_step expr_step z))
      (fold-roll-TypedExpr Os Os Os kind_parts case_parts expr_offsets z) (y.kind.1 (y.source, y.at))

  -- the marks of an expression
  pub expr_marked : (e : TypedExpr)
      → IsMarked (marks e) (site_offsets e) (kinds (expr_at typed roots functions args e)) (offsets e)
  expr_marked =
      ind-TypedExpr IsMarkedKind IsMarkedCase IsMarkedExpr
      (λ x y is. subst (λ z. IsMarkedKind (roll-TypedKind z)) is (at_level y))
      (λ x y is. subst (λ z. IsMarkedCase (roll-TypedCase z)) is (at_case y))
      (λ x y is. subst (λ z. IsMarkedExpr (roll-TypedExpr z)) is (at_expr y))
