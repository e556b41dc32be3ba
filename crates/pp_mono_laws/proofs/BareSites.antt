-- Without the numbers of checks, an expression has its sites without their checks.
use Rattle.std.proofs.Common.{◌≡◌, List, [], ◌∷◌, ◌++◌, map, Option, Some, None, refl, sym, ap, ◌∙◌}
use Rattle.std.proofs.Common.{Bool, true, false}
use Rattle.std.specs.Option.{option_map}
use Rattle.std.proofs.lemmas.List.{map-append}
use Rattle.pp_list.proofs.With.{With, elements}
use Rattle.pp_prog.proofs.Induction.{case_under, each_expr, under}
use Rattle.pp_prog.specs.Listing.{beside, case_beside, sites_in_case}
use Rattle.pp_prog.specs.ExprSorts.{sort_of}
use Rattle.pp_prog.specs.Listing.{CaseSites, Site, Sites, assertion, at_sort, case_sites, function_sites, matching}
use Rattle.pp_prog.specs.Listing.{division_site, measure, measure_sites, operator_site, postcondition, post_sites}
use Rattle.pp_prog.specs.Listing.{pre_sites, precondition, site_step, sites, sites_of_all, sites_of_cases, unguarded}
use Rattle.pp_prog.specs.Listing.{unless_guarded, with_bound}
use Rattle.pp_prog.specs.PatternSorts.{bound_sorts}
use Rattle.pp_prog.specs.Sorts.{param_sorts}
use Rattle.pp_operators.specs.Classes.{is_division}
use Rattle.pp_tree.specs.declared.operator.BinaryOp.{BinaryOp}
use Rattle.pp_prog.specs.declared.expr.Case.{Case}
use Rattle.pp_prog.specs.declared.expr.Expr.{Expr}
use Rattle.pp_prog.specs.declared.expr.Expr.TheFolds.{fold-roll-Case, fold-roll-Expr, map-Case, map-Expr}
use Rattle.pp_prog.specs.declared.expr.Expr.TheFolds.{para-roll-Case, para-roll-Expr}
use Rattle.pp_prog.specs.declared.expr.Expr.TheOpen as layer
use Rattle.pp_prog.specs.declared.expr.Expr.TheVariants as prog
use Rattle.pp_prog.specs.declared.expr.Expr.TheViews.{roll-Case, roll-Expr}
use Rattle.pp_prog.specs.declared.expr.Function.{Function}
use Rattle.pp_prog.specs.declared.expr.Pattern.{Pattern}
use Rattle.pp_prog.specs.declared.id.CheckId.{CheckId}
use Rattle.pp_prog.specs.declared.sort.Sort.{Sort}
use Rattle.pp_prog.specs.declared.types.TypeTable.{TypeTable}
use Rattle.pp_translation.specs.Bare.{bare, bare_case, bare_function, bare_of_case, bare_post, bare_step}
use Rattle.pp_translation.specs.Exprs.{unnumbered}
use Rattle.pp_mono_laws.proofs.BareSorts.{bares, sort_of_bare}
use Rattle.pp_mono_laws.proofs.Slots.{blank}
use Rattle.pp_mono_laws.proofs.Slotted.{case_parts, site_parts}

division_blank : (b : Bool) (n : Option CheckId) → division_site b None ∷ [] ≡ map blank (division_site b n ∷ [])
division_blank true n = refl
division_blank false n = refl

operator_blank : (op : BinaryOp) (n : Option CheckId)
    → operator_site op None ∷ [] ≡ map blank (operator_site op n ∷ [])
operator_blank op n = division_blank (is_division op) n

-- sites, one part after another
both_blank : {xs ys : List Site} (a b : List Site) → xs ≡ map blank a → ys ≡ map blank b
    → xs ++ ys ≡ map blank (a ++ b)
both_blank {xs} {ys} a b p q = ap (λ l. l ++ ys) p ∙ ap (λ l. map blank a ++ l) q ∙ sym (map-append blank a b)

at_blank : (o : Option Sort) (go from : Sort → List Site) → ((s : Sort) → go s ≡ map blank (from s))
    → at_sort o go ≡ map blank (at_sort o from)
at_blank None go from h = refl
at_blank (Some s) go from h = h s

bound_blank : (o : Option (List Sort)) (go from : List Sort → List Site)
    → ((l : List Sort) → go l ≡ map blank (from l)) → with_bound o go ≡ map blank (with_bound o from)
bound_blank None go from h = refl
bound_blank (Some l) go from h = h l

module _ (types : TypeTable) (fs : List Function) where
  abbrev gs : List Function
  gs = bares types fs

  abbrev In : Expr → Sites
  In = sites types fs

  abbrev Bare : Expr → Sites
  Bare = sites types gs

  abbrev in_case : Case → CaseSites
  in_case = sites_in_case types fs

  abbrev bare_in_case : Case → CaseSites
  bare_in_case = sites_in_case types gs

  abbrev P : Expr → Type 0
  P e = (scope : List Sort) → Bare (bare e) scope ≡ map blank (In e scope)

  abbrev SameSites : Case → Type 0
  SameSites c = (s : Sort) (scope : List Sort) → bare_in_case (bare_of_case c) s scope ≡ map blank (in_case c s scope)

  abbrev SamePattern : Case → Type 0
  SamePattern c = (rest : List Pattern)
      → unless_guarded (bare_of_case c).guard (bare_of_case c).pattern rest ≡ unless_guarded c.guard c.pattern rest

  abbrev Q : Case → Type 0
  Q c = SameSites c × SamePattern c

  bare_sites : (ys : List (With P)) (scope : List Sort)
      → sites_of_all (map (beside types gs) (map bare (elements ys))) scope
      ≡ map blank (sites_of_all (map (beside types fs) (elements ys)) scope)
  bare_sites [] scope = refl
  bare_sites (y ∷ ys) scope =
      both_blank (In y.0 scope) (sites_of_all (map (beside types fs) (elements ys)) scope) (y.1 scope)
      (bare_sites ys scope)

  each_case : (ys : List (With Q)) (s : Sort) (scope : List Sort)
      → sites_of_cases (map (case_beside types gs) (map bare_of_case (elements ys))) s scope
      ≡ map blank (sites_of_cases (map (case_beside types fs) (elements ys)) s scope)
  each_case [] s scope = refl
  each_case (y ∷ ys) s scope =
      both_blank (in_case y.0 s scope) (sites_of_cases (map (case_beside types fs) (elements ys)) s scope)
      (y.1.0 s scope) (each_case ys s scope)

  each_pattern : (ys : List (With Q))
      → unguarded (map (case_beside types gs) (map bare_of_case (elements ys)))
      ≡ unguarded (map (case_beside types fs) (elements ys))
  each_pattern [] = refl
  each_pattern (y ∷ ys) =
      y.1.1 (unguarded (map (case_beside types gs) (map bare_of_case (elements ys))))
      ∙ ap (unless_guarded y.0.guard y.0.pattern) (each_pattern ys)

  opened : (y : layer.Expr-F Expr Case) (e : Expr) (scope : List Sort) → roll-Expr y ≡ e
      → Bare e scope
      ≡ site_step types gs (site_parts types gs y) scope
  opened y e scope is =
      ap (λ z. Bare z scope) (sym is)
      ∙ ap (λ (f : Sites). f scope) (para-roll-Expr Sites CaseSites (site_step types gs) (case_sites types gs) y)

  level : (y : layer.Expr-F (With P) (With Q)) (scope : List Sort)
      → Bare (bare_step (map-Expr Expr Case Expr Case bare bare_of_case (under y))) scope
      ≡ map blank (site_step types fs (site_parts types fs (under y)) scope)
  level (layer.Int n) scope = opened (layer.Int n) _ scope (prog.rolls-Int n)
  level (layer.Bool b) scope = opened (layer.Bool b) _ scope (prog.rolls-Bool b)
  level (layer.Var i) scope = opened (layer.Var i) _ scope (prog.rolls-Var i)
  level (layer.Unary op a) scope =
      opened (layer.Unary op (bare a.0)) _ scope (prog.rolls-Unary op (bare a.0)) ∙ a.1 scope
  level (layer.Binary op a b check) scope =
      opened (layer.Binary op (bare a.0) (bare b.0) None) _ scope (prog.rolls-Binary op (bare a.0) (bare b.0) None)
      ∙ both_blank (In a.0 scope ++ In b.0 scope) (operator_site op check ∷ [])
      (both_blank (In a.0 scope) (In b.0 scope) (a.1 scope) (b.1 scope)) (operator_blank op check)
  level (layer.Construct c args) scope =
      let es = map bare (elements args) in
      opened (layer.Construct c es) _ scope (prog.rolls-Construct c es) ∙ bare_sites args scope
  level (layer.Field e k) scope =
      opened (layer.Field (bare e.0) k) _ scope (prog.rolls-Field (bare e.0) k) ∙ e.1 scope
  level (layer.If c a b) scope =
      opened (layer.If (bare c.0) (bare a.0) (bare b.0)) _ scope (prog.rolls-If (bare c.0) (bare a.0) (bare b.0))
      ∙ both_blank (In c.0 scope ++ In a.0 scope) (In b.0 scope)
      (both_blank (In c.0 scope) (In a.0 scope) (c.1 scope) (a.1 scope)) (b.1 scope)
  level (layer.Match e cases check) scope =
      let cs = map bare_of_case (elements cases) in
      let ds = map (case_beside types fs) (elements cases) in
      let go : Sort → List Site =
      λ s. matching s (unguarded (map (case_beside types gs) cs)) None ∷ sites_of_cases (map (case_beside types gs) cs)
      s scope in
      let from : Sort → List Site = λ s. matching s (unguarded ds) check ∷ sites_of_cases ds s scope in
      opened (layer.Match (bare e.0) cs None) _ scope (prog.rolls-Match (bare e.0) cs None)
      ∙ both_blank (In e.0 scope) (at_sort (sort_of types fs e.0 scope) from) (e.1 scope)
      (ap (λ f. at_sort (f scope) go) (sort_of_bare types fs e.0)
      ∙ at_blank (sort_of types fs e.0 scope) go from
      (λ s. ap (λ l. matching s l None ∷ sites_of_cases (map (case_beside types gs) cs) s scope) (each_pattern cases)
      ∙ ap (λ l. matching s (unguarded ds) None ∷ l) (each_case cases s scope)))
  level (layer.Val a b) scope =
      let go : Sort → List Site = λ s. Bare (bare b.0) (scope ++ s ∷ []) in
      let from : Sort → List Site = λ s. In b.0 (scope ++ s ∷ []) in
      opened (layer.Val (bare a.0) (bare b.0)) _ scope (prog.rolls-Val (bare a.0) (bare b.0))
      ∙ both_blank (In a.0 scope) (at_sort (sort_of types fs a.0 scope) from) (a.1 scope)
      (ap (λ f. at_sort (f scope) go) (sort_of_bare types fs a.0)
      ∙ at_blank (sort_of types fs a.0 scope) go from (λ s. b.1 (scope ++ s ∷ [])))
  level (layer.Assert check c e) scope =
      opened (layer.Assert unnumbered (bare c.0) (bare e.0)) _ scope
      (prog.rolls-Assert unnumbered (bare c.0) (bare e.0))
      ∙ both_blank (In c.0 scope) (assertion check ∷ In e.0 scope) (c.1 scope)
      (ap (λ l. assertion unnumbered ∷ l) (e.1 scope))
  level (layer.Call g args pre down) scope =
      let es = map bare (elements args) in
      opened (layer.Call g es None None) _ scope (prog.rolls-Call g es None None)
      ∙ both_blank (sites_of_all (map (beside types fs) (elements args)) scope)
      (precondition g pre ∷ measure g down ∷ [])
      (bare_sites args scope) refl

  at_level : (y : layer.Expr-F (With P) (With Q)) → P (roll-Expr (under y))
  at_level y scope =
      let z = under y in
      ap (λ e. Bare e scope) (fold-roll-Expr Expr Case bare_step bare_case z) ∙ level y scope
      ∙ sym (ap (λ (f : Sites). map blank (f scope))
      (para-roll-Expr Sites CaseSites (site_step types fs) (case_sites types fs) z))

  at_parts : (p : Pattern) (o : Option (With P)) (b : With P) (s : Sort) (scope : List Sort)
      → let z = case_under Q (record { pattern = p; guard = o; body = b }) in
      bare_in_case (bare_case (map-Case Expr Case Expr Case bare bare_of_case z)) s scope
      ≡ map blank (case_sites types fs (case_parts types fs z) s scope)
  at_parts p None b s scope =
      ap (λ (f : CaseSites). f s scope)
      (para-roll-Case Sites CaseSites (site_step types gs) (case_sites types gs)
      (record { pattern = p; guard = None; body = bare b.0 }))
      ∙ bound_blank (bound_sorts types.ctors p s) _ _ (λ l. b.1 (scope ++ l))
  at_parts p (Some g) b s scope =
      ap (λ (f : CaseSites). f s scope)
      (para-roll-Case Sites CaseSites (site_step types gs) (case_sites types gs)
      (record { pattern = p; guard = Some (bare g.0); body = bare b.0 }))
      ∙ bound_blank (bound_sorts types.ctors p s) _ _
      (λ l. both_blank (In g.0 (scope ++ l)) (In b.0 (scope ++ l)) (g.1 (scope ++ l)) (b.1 (scope ++ l)))

  pattern_at : (p : Pattern) (o : Option (With P)) (b : With P) (rest : List Pattern)
      → let z = case_under Q (record { pattern = p; guard = o; body = b }) in
      let c = bare_case (map-Case Expr Case Expr Case bare bare_of_case z) in
      unless_guarded c.guard c.pattern rest ≡ unless_guarded z.guard z.pattern rest
  pattern_at p None b rest = refl
  pattern_at p (Some g) b rest = refl

  at_case : (y : layer.Case-F (With P) (With Q)) → Q (roll-Case (case_under Q y))
  at_case y =
      let z = case_under Q y in
      let is = fold-roll-Case Expr Case bare_step bare_case z in (
        λ s scope. ap (λ c. bare_in_case c s scope) is ∙ at_parts y.pattern y.guard y.body s scope
            ∙ sym (ap (λ (f : CaseSites). map blank (f s scope))
            (para-roll-Case Sites CaseSites (site_step types fs) (case_sites types fs) z)),
        λ rest. ap (λ (c : Case). unless_guarded c.guard c.pattern rest) is ∙ pattern_at y.pattern y.guard y.body rest,
      )

  sites_of_bare : (e : Expr) → P e
  sites_of_bare = each_expr P Q at_level at_case

  of_pre : (pre : Option Expr) (scope : List Sort)
      → pre_sites types gs (option_map bare pre) scope ≡ map blank (pre_sites types fs pre scope)
  of_pre None scope = refl
  of_pre (Some e) scope = sites_of_bare e scope

  of_measure : (es : List Expr) (scope : List Sort)
      → measure_sites types gs (map bare es) scope ≡ map blank (measure_sites types fs es scope)
  of_measure [] scope = refl
  of_measure (e ∷ es) scope =
      both_blank (In e scope) (measure_sites types fs es scope) (sites_of_bare e scope) (of_measure es scope)

  of_post : (post : Option (CheckId × Expr)) (result : Sort) (scope : List Sort)
      → post_sites types gs (bare_post post) result scope ≡ map blank (post_sites types fs post result scope)
  of_post None result scope = refl
  of_post (Some post) result scope =
      both_blank (In post.1 (scope ++ result ∷ [])) (postcondition post.0 ∷ [])
      (sites_of_bare post.1 (scope ++ result ∷ [])) refl

  -- without numbers, a function has its sites without their checks
  pub function_blank : (f : Function)
      → function_sites types (map bare_function fs) (bare_function f) ≡ map blank (function_sites types fs f)
  function_blank f =
      let scope = param_sorts f.params in
      let pre = pre_sites types fs f.pre scope in
      let down = measure_sites types fs f.measure scope in
      both_blank (pre ++ down ++ In f.body scope) (post_sites types fs f.post f.result scope)
      (both_blank (pre ++ down) (In f.body scope)
      (both_blank pre down (of_pre f.pre scope) (of_measure f.measure scope))
      (sites_of_bare f.body scope)) (of_post f.post f.result scope)
