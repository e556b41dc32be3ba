-- The numbers of checks don't change the sort of an expression.
use mathlib.Core.Path.{fun_ext}
use Rattle.std.proofs.Common.{◌≡◌, ℕ, List, [], ◌∷◌, map, Option, Some, None, slice_get, refl, sym, ap, ◌∙◌}
use Rattle.std.specs.Option.{option_map}
use Rattle.std.proofs.lemmas.Option.{slice_get-map}
use Rattle.pp_list.proofs.With.{With, elements}
use Rattle.pp_prog.proofs.Induction.{case_under, each_expr, under}
use Rattle.pp_prog.specs.ExprSorts.{case_sorts}
use Rattle.pp_prog.specs.ExprSorts.{Arm, Sorting, alike, arm_sort, arm_step, arms_like, arms_sort, call_sort, sort_of}
use Rattle.pp_prog.specs.ExprSorts.{sort_step, sorts_in, then_sort}
use Rattle.pp_prog.specs.declared.expr.Case.{Case}
use Rattle.pp_prog.specs.declared.expr.Expr.{Expr}
use Rattle.pp_prog.specs.declared.expr.Expr.TheFolds.{fold-roll-Case, fold-roll-Expr, map-Case}
use Rattle.pp_prog.specs.declared.expr.Expr.TheFolds.{map-Expr}
use Rattle.pp_prog.specs.declared.expr.Expr.TheOpen as layer
use Rattle.pp_prog.specs.declared.expr.Expr.TheVariants as prog
use Rattle.pp_prog.specs.declared.expr.Expr.TheViews.{roll-Case, roll-Expr}
use Rattle.pp_prog.specs.declared.expr.Function.{Function}
use Rattle.pp_prog.specs.declared.expr.Pattern.{Pattern}
use Rattle.pp_prog.specs.declared.sort.Sort.{Sort}
use Rattle.pp_prog.specs.declared.types.TypeTable.{TypeTable}
use Rattle.pp_translation.specs.Bare.{bare, bare_case, bare_function, bare_of_case, bare_step}
use Rattle.pp_translation.specs.Exprs.{unnumbered}

bare_call : (o : Option Function) (ss : List (Option Sort))
    → call_sort (option_map bare_function o) ss ≡ call_sort o ss
bare_call None ss = refl
bare_call (Some f) ss = refl

module _ (types : TypeTable) (fs : List Function) where
  abbrev pub bares : List Function
  bares = map bare_function fs

  abbrev S : Expr → Sorting
  S = sort_of types fs

  abbrev B : Expr → Sorting
  B = sort_of types bares

  abbrev arm_of : Case → Arm
  arm_of = case_sorts types fs

  abbrev bare_arm : Case → Arm
  bare_arm = case_sorts types bares

  abbrev P : Expr → Type 0
  P e = B (bare e) ≡ S e

  abbrev Q : Case → Type 0
  Q c = bare_arm (bare_of_case c) ≡ arm_of c

  call_is : (g : ℕ) (ss : List (Option Sort)) → call_sort (slice_get bares g) ss ≡ call_sort (slice_get fs g) ss
  call_is g ss = ap (λ o. call_sort o ss) (slice_get-map bare_function fs g) ∙ bare_call (slice_get fs g) ss

  bare_sorts : (ys : List (With P)) → map B (map bare (elements ys)) ≡ map S (elements ys)
  bare_sorts [] = refl
  bare_sorts (y ∷ ys) =
      ap (λ (s : Sorting). s ∷ map B (map bare (elements ys))) y.1
      ∙ ap (λ (l : List Sorting). S y.0 ∷ l) (bare_sorts ys)

  each_case : (ys : List (With Q))
      → map bare_arm (map bare_of_case (elements ys)) ≡ map arm_of (elements ys)
  each_case [] = refl
  each_case (y ∷ ys) =
      ap (λ (a : Arm). a ∷ map bare_arm (map bare_of_case (elements ys))) y.1
      ∙ ap (λ (l : List Arm). arm_of y.0 ∷ l) (each_case ys)

  -- the sort of cases speaks of no functions
  like_is : (t : Option Sort) (arms : List Arm) (s : Sort) (scope : List Sort)
      → arms_like types bares t arms s scope ≡ arms_like types fs t arms s scope
  like_is t [] s scope = refl
  like_is t (arm ∷ arms) s scope = like_is (alike t (arm_sort types fs arm s scope)) arms s scope

  arms_are : (arms : List Arm) (s : Sort) (scope : List Sort)
      → arms_sort types bares arms s scope ≡ arms_sort types fs arms s scope
  arms_are [] s scope = refl
  arms_are (arm ∷ arms) s scope = like_is (arm_sort types fs arm s scope) arms s scope

  opened : (y : layer.Expr-F Expr Case) (e : Expr) → roll-Expr y ≡ e
      → B e ≡ sort_step types bares (map-Expr Expr Case Sorting Arm B bare_arm y)
  opened y e is = ap B (sym is) ∙ fold-roll-Expr Sorting Arm (sort_step types bares) arm_step y

  abbrev Step : Type 0
  Step = layer.Expr-F Sorting Arm

  abbrev step : Step → Sorting
  step = sort_step types fs

  level : (y : layer.Expr-F (With P) (With Q))
      → B (bare_step (map-Expr Expr Case Expr Case bare bare_of_case (under y)))
      ≡ step (map-Expr Expr Case Sorting Arm S arm_of (under y))
  level (layer.Int n) = opened (layer.Int n) _ (prog.rolls-Int n)
  level (layer.Bool b) = opened (layer.Bool b) _ (prog.rolls-Bool b)
  level (layer.Var i) = opened (layer.Var i) _ (prog.rolls-Var i)
  level (layer.Unary op a) =
      opened (layer.Unary op (bare a.0)) _ (prog.rolls-Unary op (bare a.0))
      ∙ ap (λ (f : Sorting). step (layer.Unary op f)) a.1
  level (layer.Binary op a b check) =
      opened (layer.Binary op (bare a.0) (bare b.0) None) _ (prog.rolls-Binary op (bare a.0) (bare b.0) None)
      ∙ ap (λ (f : Sorting). step (layer.Binary op f (B (bare b.0)) None)) a.1
      ∙ ap (λ (f : Sorting). step (layer.Binary op (S a.0) f None)) b.1
  level (layer.Construct c args) =
      let es = map bare (elements args) in
      opened (layer.Construct c es) _ (prog.rolls-Construct c es)
      ∙ ap (λ (l : List Sorting). step (layer.Construct c l)) (bare_sorts args)
  level (layer.Field e k) =
      opened (layer.Field (bare e.0) k) _ (prog.rolls-Field (bare e.0) k)
      ∙ ap (λ (f : Sorting). step (layer.Field f k)) e.1
  level (layer.If c a b) =
      opened (layer.If (bare c.0) (bare a.0) (bare b.0)) _ (prog.rolls-If (bare c.0) (bare a.0) (bare b.0))
      ∙ ap (λ (f : Sorting). step (layer.If f (B (bare a.0)) (B (bare b.0)))) c.1
      ∙ ap (λ (f : Sorting). step (layer.If (S c.0) f (B (bare b.0)))) a.1
      ∙ ap (λ (f : Sorting). step (layer.If (S c.0) (S a.0) f)) b.1
  level (layer.Match e cases check) =
      let cs = map bare_of_case (elements cases) in
      let arms = map arm_of (elements cases) in
      opened (layer.Match (bare e.0) cs None) _ (prog.rolls-Match (bare e.0) cs None)
      ∙ ap (λ (f : Sorting). sort_step types bares (layer.Match f (map bare_arm cs) None)) e.1
      ∙ ap (λ (l : List Arm). sort_step types bares (layer.Match (S e.0) l None)) (each_case cases)
      ∙ fun_ext (λ scope. ap (then_sort (S e.0 scope)) (fun_ext (λ s. arms_are arms s scope)))
  level (layer.Val a b) =
      opened (layer.Val (bare a.0) (bare b.0)) _ (prog.rolls-Val (bare a.0) (bare b.0))
      ∙ ap (λ (f : Sorting). step (layer.Val f (B (bare b.0)))) a.1
      ∙ ap (λ (f : Sorting). step (layer.Val (S a.0) f)) b.1
  level (layer.Assert check c e) =
      opened (layer.Assert unnumbered (bare c.0) (bare e.0)) _ (prog.rolls-Assert unnumbered (bare c.0) (bare e.0))
      ∙ ap (λ (f : Sorting). step (layer.Assert check f (B (bare e.0)))) c.1
      ∙ ap (λ (f : Sorting). step (layer.Assert check (S c.0) f)) e.1
  level (layer.Call g args pre down) =
      let es = map bare (elements args) in
      opened (layer.Call g es None None) _ (prog.rolls-Call g es None None)
      ∙ ap (λ (l : List Sorting). sort_step types bares (layer.Call g l None None)) (bare_sorts args)
      ∙ fun_ext (λ scope. call_is g.0 (sorts_in scope (map S (elements args))))

  at_level : (y : layer.Expr-F (With P) (With Q)) → P (roll-Expr (under y))
  at_level y =
      let z = under y in
      ap B (fold-roll-Expr Expr Case bare_step bare_case z) ∙ level y
      ∙ sym (fold-roll-Expr Sorting Arm (sort_step types fs) arm_step z)

  abbrev made : Pattern → Option Sorting → Sorting → Arm
  made p o s = record { pattern = p; guard = o; body = s }

  at_parts : (p : Pattern) (o : Option (With P)) (b : With P)
      → let z = case_under Q (record { pattern = p; guard = o; body = b }) in
      bare_arm (bare_case (map-Case Expr Case Expr Case bare bare_of_case z))
      ≡ arm_step (map-Case Expr Case Sorting Arm S arm_of z)
  at_parts p None b =
      fold-roll-Case Sorting Arm (sort_step types bares) arm_step
      (record { pattern = p; guard = None; body = bare b.0 })
      ∙ ap (made p None) b.1
  at_parts p (Some g) b =
      fold-roll-Case Sorting Arm (sort_step types bares) arm_step
      (record { pattern = p; guard = Some (bare g.0); body = bare b.0 })
      ∙ ap (λ (s : Sorting). made p (Some s) (B (bare b.0))) g.1 ∙ ap (made p (Some (S g.0))) b.1

  at_case : (y : layer.Case-F (With P) (With Q)) → Q (roll-Case (case_under Q y))
  at_case y =
      let z = case_under Q y in
      ap bare_arm (fold-roll-Case Expr Case bare_step bare_case z) ∙ at_parts y.pattern y.guard y.body
      ∙ sym (fold-roll-Case Sorting Arm (sort_step types fs) arm_step z)

  -- without numbers, an expression has the sort that it has
  pub sort_of_bare : (e : Expr) → sort_of types bares (bare e) ≡ sort_of types fs e
  sort_of_bare = each_expr P Q at_level at_case
