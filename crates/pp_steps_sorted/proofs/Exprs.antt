-- The steps of an expression of a sort are well sorted where those of its calls are.
use Rattle.std.proofs.Common.{◌≡◌, ℕ, List, [], ◌∷◌, ◌++◌, map, Option, Some, None, slice_get, refl, sym, ap, ◌∙◌}
use Rattle.std.proofs.Common.{subst}
use Rattle.pp_list.proofs.With.{With, elements}
use Rattle.pp_prog.proofs.Induction.{case_under, each_expr, under}
use Rattle.pp_prog.specs.ExprSorts.{case_sorts}
use Rattle.pp_prog.specs.Listing.{sites_in_case, with_case_sites, with_sites}
use Rattle.pp_prog.specs.declared.expr.Case.{Case}
use Rattle.pp_prog.specs.declared.expr.Expr.{Expr}
use Rattle.pp_prog.specs.declared.expr.Expr.TheFolds.{fold-roll-Case, fold-roll-Expr, map-Case}
use Rattle.pp_prog.specs.declared.expr.Expr.TheFolds.{map-Expr, para-roll-Case, para-roll-Expr}
use Rattle.pp_prog.specs.declared.expr.Expr.TheOpen as layer
use Rattle.pp_prog.specs.declared.expr.Expr.TheViews.{roll-Case, roll-Expr}
use Rattle.pp_prog.specs.declared.expr.Function.{Function}
use Rattle.pp_prog.specs.declared.expr.Pattern.{Pattern}
use Rattle.pp_prog.specs.declared.id.CheckId.{CheckId}
use Rattle.pp_prog.specs.declared.id.FunctionId.{FunctionId}
use Rattle.pp_prog.specs.declared.program.Program.{Program}
use Rattle.pp_prog.specs.declared.sort.Sort.{Sort}
use Rattle.pp_prog.specs.declared.sort.Sort.TheVariants as sort
use Rattle.pp_prog.specs.ExprSorts.{Sorting, alike, arm_with, arms_sort, field_sort, sort_of, sort_step, sorts_in}
use Rattle.pp_prog.specs.ExprSorts as sorts
use Rattle.pp_prog.specs.Listing.{CaseSites, Sites, at_sort, case_sites, guard_sites, matching, measure, site_step}
use Rattle.pp_prog.specs.Listing.{sites, sites_of_all, sites_of_cases, unguarded, with_bound}
use Rattle.pp_prog.specs.PatternSorts.{bound_sorts}
use Rattle.pp_prog.specs.Sorts.{is_int, param_sorts}
use Rattle.pp_sound.proofs.Cases.{EachArm, each_arm}
use Rattle.pp_sound.proofs.Sites.{AreMet, IsMet, met_head, met_left, met_right, met_tail}
use Rattle.pp_prog.proofs.PartSorts.{alike_are, bool_then, call_sort_is, sort_then, sort_there, tree_sort_is, tree_then}
use Rattle.pp_steps.specs.declared.step.Step.TheVariants as steps
use Rattle.pp_steps.specs.Compile.{Arm, Compiling, Site, all, arm, arm_step, compile, compile_step}
use Rattle.pp_steps.specs.Sorted.{Sorts}
use Rattle.pp_steps_sorted.proofs.Forms.{AllCompile, Compiles, all_sorted, assert_compiles, construct_compiles}
use Rattle.pp_steps_sorted.proofs.Forms.{if_compiles, map_compiles, val_compiles, variable_is}
use Rattle.pp_steps_sorted.proofs.Matches.{AllArms, ArmCompiles, match_compiles}
use Rattle.pp_steps_sorted.proofs.Operators.{binary_compiles, unary_compiles}
use Rattle.pp_steps_sorted.proofs.Pieces.{AreOf, IsOf, WellSorted, joined_sorted, none_sorted, one_sorted}
use Rattle.pp_steps_sorted.proofs.Steps.{field_makes}

-- The steps of a call at a site of function number i that is met, on arguments of the parameters' sorts, are well
-- sorted, and the outcome is of the result's sort.
pub record IsSiteSorted (p : Program) (σ : Sorts) (i : ℕ) (site : Site) : Type 0 where
  pub call : (k reach : ℕ) (g : FunctionId) (pre down : Option CheckId) (args : List ℕ) (f : Function)
      → slice_get p.functions g.0 ≡ Some f → AreOf p.types σ (param_sorts f.params) args → IsMet p i (measure g down)
      → σ reach ≡ sort.Bool
      → WellSorted p.types σ (IsOf p.types σ f.result) k (site k reach g pre down args)

module _ (p : Program) (σ : Sorts) (i : ℕ) (asked : Option CheckId) (site : Site) (its : IsSiteSorted p σ i site) where
  -- the sort, the sites and the steps of an expression
  abbrev Sorted : Expr → Sorting
  Sorted = sort_of p.types p.functions

  abbrev Placed : Expr → Sites
  Placed = sites p.types p.functions

  abbrev Steps : Expr → Compiling
  Steps = compile asked site

  -- and those of a case
  abbrev SortedArm : Case → sorts.Arm
  SortedArm = case_sorts p.types p.functions

  abbrev PlacedArm : Case → CaseSites
  PlacedArm = sites_in_case p.types p.functions

  abbrev StepsArm : Case → Arm
  StepsArm = arm asked site

  -- the steps of the expression are well sorted, in each scope where it has a sort and its sites are met
  abbrev P : Expr → Type 0
  P e =
      (scope : List Sort) (s : Sort) → Sorted e scope ≡ Some s → AreMet p i (Placed e scope)
      → Compiles p.types σ scope s (Steps e)

  -- so are those of the case, at a matched value of sort s
  abbrev Q : Case → Type 0
  Q c =
      (s u : Sort) (scope : List Sort) → sorts.arm_sort p.types p.functions (SortedArm c) s scope ≡ Some u
      → AreMet p i (PlacedArm c s scope) → ArmCompiles p.types σ scope s u (StepsArm c)

  -- ---- lists

  all_compile : (ys : List (With P)) (scope ts : List Sort) → sorts_in scope (map Sorted (elements ys)) ≡ map Some ts
      → AreMet p i (sites_of_all (with_sites p.types p.functions (elements ys)) scope)
      → AllCompile p.types σ scope (map Steps (elements ys)) ts
  all_compile [] scope [] h met = tt
  all_compile [] scope (t ∷ ts) h met = cc
  all_compile (y ∷ ys) scope [] h met = cc
  all_compile (y ∷ ys) scope (t ∷ ts) h met =
      let here : Sorted y.0 scope ≡ Some t = cc in
      let rest : sorts_in scope (map Sorted (elements ys)) ≡ map Some ts = cc in
      (y.1 scope t here (met_left _ _ met), all_compile ys scope ts rest (met_right _ _ met))

  all_arms : (ys : List (With Q)) (s u : Sort) (scope : List Sort) → EachArm p s u scope (map SortedArm (elements ys))
      → AreMet p i (sites_of_cases (with_case_sites p.types p.functions (elements ys)) s scope)
      → AllArms p.types σ scope s u (map StepsArm (elements ys))
  all_arms [] s u scope each met = tt
  all_arms (y ∷ ys) s u scope each met =
      (y.1 s u scope each.0 (met_left _ _ met), all_arms ys s u scope each.1 (met_right _ _ met))

  matching_compiles : (ys : List (With Q)) (s u : Sort) (scope : List Sort) (m : Compiling) (check : Option CheckId)
      → arms_sort p.types p.functions (map SortedArm (elements ys)) s scope ≡ Some u
      → AreMet p i (sites_of_cases (with_case_sites p.types p.functions (elements ys)) s scope)
      → Compiles p.types σ scope s m
      → Compiles p.types σ scope u (compile_step asked site (layer.Match m (map StepsArm (elements ys)) check))
  matching_compiles [] s u scope m check h met hm = cc
  matching_compiles (y ∷ ys) s u scope m check h met hm =
      let arms = all_arms (y ∷ ys) s u scope (each_arm p s u scope (map SortedArm (elements (y ∷ ys))) h) met in
      match_compiles p.types σ asked check scope s u m (StepsArm y.0) (map StepsArm (elements ys)) hm arms

  call_compiles : (ms : List Compiling) (scope : List Sort) (g : FunctionId) (pre down : Option CheckId) (f : Function)
      → slice_get p.functions g.0 ≡ Some f → AllCompile p.types σ scope ms (param_sorts f.params)
      → IsMet p i (measure g down)
      → Compiles p.types σ scope f.result (compile_step asked site (layer.Call g ms pre down))
  call_compiles ms scope g pre down f is h met k env reach e r =
      joined_sorted p.types σ k (all ms k env reach) _
      (all_sorted p.types σ ms scope (param_sorts f.params) h k env reach e r)
      (λ xs. its.call _ _ g pre down _ f is xs.out met xs.alive)

  -- ---- one level of an expression

  abbrev sorted : layer.Expr-F (With P) (With Q) → Sorting
  sorted y = sort_step p.types p.functions (map-Expr Expr Case Sorting sorts.Arm Sorted SortedArm (under y))

  abbrev placed : layer.Expr-F (With P) (With Q) → Sites
  placed y =
      site_step p.types p.functions (map-Expr Expr Case (Expr × Sites) (Case × CaseSites) (λ e. (e, Placed e))
      (λ c. (c, PlacedArm c)) (under y))

  abbrev stepped : layer.Expr-F (With P) (With Q) → Compiling
  stepped y = compile_step asked site (map-Expr Expr Case Compiling Arm Steps StepsArm (under y))

  is_sort : (scope : List Sort) (s t : Sort) (m : Compiling) → s ≡ t → Compiles p.types σ scope s m
      → Compiles p.types σ scope t m
  is_sort scope s t m e h = subst (λ u. Compiles p.types σ scope u m) e h

  level : (y : layer.Expr-F (With P) (With Q)) (scope : List Sort) (s : Sort) → sorted y scope ≡ Some s
      → AreMet p i (placed y scope) → Compiles p.types σ scope s (stepped y)
  level (layer.Int n) scope s h met =
      let q = sort_there (is_int n) sort.Int s h in
      is_sort scope sort.Int s _ q.1
      (λ k env reach e r. one_sorted p.types σ (steps.Int n) sort.Int k reach (λ is. ((is, q.0), is)) r)
  level (layer.Bool b) scope s h met =
      is_sort scope sort.Bool s _ (cc)
      (λ k env reach e r. one_sorted p.types σ (steps.Bool b) sort.Bool k reach (λ is. (is, is)) r)
  level (layer.Var n) scope s h met =
      λ k env reach e r. none_sorted p.types σ {R = IsOf p.types σ s} k _ reach
      (variable_is p.types σ env scope n s e h) r
  level (layer.Unary op a) scope s h met =
      unary_compiles p.types σ op (Steps a.0) scope (Sorted a.0 scope) s (λ t g. a.1 scope t g met) h
  level (layer.Binary op a b check) scope s h met =
      binary_compiles p.types σ asked op check (Steps a.0) (Steps b.0) scope (Sorted a.0 scope) (Sorted b.0 scope) s
      (λ t g. a.1 scope t g (met_left _ _ (met_left _ _ met)))
      (λ t g. b.1 scope t g (met_right _ _ (met_left _ _ met))) h
  level (layer.Construct c args) scope s h met =
      let k = tree_sort_is (slice_get p.types.ctors c.0) (sorts_in scope (map Sorted (elements args))) s h in
      is_sort scope (sort.Tree k.0.of) s _ k.3
      (construct_compiles p.types σ (map Steps (elements args)) scope c k.0 k.1
      (all_compile args scope k.0.fields k.2 met))
  level (layer.Field a n) scope s h met =
      let d = tree_then (Sorted a.0 scope) (λ d. field_sort p.types p.functions d n) s h in
      map_compiles p.types σ (Steps a.0) (λ x. steps.Field x n) scope (sort.Tree d.0) s (a.1 scope _ d.1 met)
      (λ k x is. field_makes p.types σ d.0 n x k s is d.2)
  level (layer.If c a b) scope s h met =
      let t = bool_then (Sorted c.0 scope) (alike (Sorted a.0 scope) (Sorted b.0 scope)) s h in
      let both = alike_are (Sorted a.0 scope) (Sorted b.0 scope) s t.1 in
      if_compiles p.types σ (Steps c.0) (Steps a.0) (Steps b.0) scope s
      (c.1 scope sort.Bool t.0 (met_left _ _ (met_left _ _ met)))
      (a.1 scope s both.0 (met_right _ _ (met_left _ _ met))) (b.1 scope s both.1 (met_right _ _ met))
  level (layer.Match a ys check) scope s h met =
      let placed_cases = with_case_sites p.types p.functions (elements ys) in
      let arms = map SortedArm (elements ys) in
      let t = sort_then (Sorted a.0 scope) (λ t. arms_sort p.types p.functions arms t scope) s h in
      let after : AreMet p i (matching t.0 (unguarded placed_cases) check ∷ sites_of_cases placed_cases t.0 scope) =
      subst (λ o. AreMet p i (at_sort o (λ t. matching t (unguarded placed_cases) check
      ∷ sites_of_cases placed_cases t scope))) t.1 (met_right _ _ met) in
      matching_compiles ys t.0 s scope (Steps a.0) check t.2 (met_tail after) (a.1 scope t.0 t.1 (met_left _ _ met))
  level (layer.Val bound rest) scope s h met =
      let t = sort_then (Sorted bound.0 scope) (λ t. Sorted rest.0 (scope ++ t ∷ [])) s h in
      let after : AreMet p i (Placed rest.0 (scope ++ t.0 ∷ [])) =
      subst (λ o. AreMet p i (at_sort o (λ t. Placed rest.0 (scope ++ t ∷ [])))) t.1 (met_right _ _ met) in
      val_compiles p.types σ (Steps bound.0) (Steps rest.0) scope t.0 s
      (bound.1 scope t.0 t.1 (met_left _ _ met)) (rest.1 (scope ++ t.0 ∷ []) s t.2 after)
  level (layer.Assert check c rest) scope s h met =
      let t = bool_then (Sorted c.0 scope) (Sorted rest.0 scope) s h in
      let after = met_right (Placed c.0 scope) _ met in
      assert_compiles p.types σ asked (Some check) (Steps c.0) (Steps rest.0) scope s
      (c.1 scope sort.Bool t.0 (met_left _ _ met)) (rest.1 scope s t.1 (met_tail after))
  level (layer.Call g args pre down) scope s h met =
      let f = call_sort_is (slice_get p.functions g.0) (sorts_in scope (map Sorted (elements args))) s h in
      let own = met_right (sites_of_all (with_sites p.types p.functions (elements args)) scope) _ met in
      is_sort scope f.0.result s _ f.3
      (call_compiles (map Steps (elements args)) scope g pre down f.0 f.1
      (all_compile args scope (param_sorts f.0.params) f.2 (met_left _ _ met)) (met_head (met_tail own)))

  -- ---- one case

  plain_case : (pattern : Pattern) (b : With P) (s u : Sort) (scope : List Sort) (o : Option (List Sort))
      → bound_sorts p.types.ctors pattern s ≡ o
      → arm_with (record { pattern = pattern; guard = None; body = Sorted b.0 }) scope o ≡ Some u
      → AreMet p i (with_bound o (λ bound. guard_sites None (scope ++ bound) ++ Placed b.0 (scope ++ bound)))
      → ArmCompiles p.types σ scope s u (record { pattern = pattern; guard = None; body = Steps b.0 })
  plain_case pattern b s u scope None is h met = cc
  plain_case pattern b s u scope (Some bound) is h met =
      record { bound = bound; binds = is; guard = tt; body = b.1 (scope ++ bound) u h met }

  guarded_case : (pattern : Pattern) (g b : With P) (s u : Sort) (scope : List Sort) (o : Option (List Sort))
      → bound_sorts p.types.ctors pattern s ≡ o
      → arm_with (record { pattern = pattern; guard = Some (Sorted g.0); body = Sorted b.0 }) scope o ≡ Some u
      → AreMet p i (with_bound o (λ bound. guard_sites (Some (g.0, Placed g.0)) (scope ++ bound)
      ++ Placed b.0 (scope ++ bound)))
      → ArmCompiles p.types σ scope s u (record { pattern = pattern; guard = Some (Steps g.0); body = Steps b.0 })
  guarded_case pattern g b s u scope None is h met = cc
  guarded_case pattern g b s u scope (Some bound) is h met =
      let are = bool_then (Sorted g.0 (scope ++ bound)) (Sorted b.0 (scope ++ bound)) u h in
      record {
        bound = bound;
        binds = is;
        guard = g.1 (scope ++ bound) sort.Bool are.0 (met_left _ _ met);
        body = b.1 (scope ++ bound) u are.1 (met_right _ _ met);
      }

  by_parts : (pattern : Pattern) (guard : Option (With P)) (b : With P) (s u : Sort) (scope : List Sort)
      → let z = case_under Q (record { pattern = pattern; guard = guard; body = b }) in
      sorts.arm_sort p.types p.functions (sorts.arm_step (map-Case Expr Case Sorting sorts.Arm Sorted SortedArm z)) s
      scope ≡ Some u
      → AreMet p i (case_sites p.types p.functions (map-Case Expr Case (Expr × Sites) (Case × CaseSites)
      (λ e. (e, Placed e)) (λ c. (c, PlacedArm c)) z) s scope)
      → ArmCompiles p.types σ scope s u (arm_step (map-Case Expr Case Compiling Arm Steps StepsArm z))
  by_parts pattern None b s u scope h met =
      plain_case pattern b s u scope (bound_sorts p.types.ctors pattern s) refl h met
  by_parts pattern (Some g) b s u scope h met =
      guarded_case pattern g b s u scope (bound_sorts p.types.ctors pattern s) refl h met

  at_case : (y : layer.Case-F (With P) (With Q)) → Q (roll-Case (case_under Q y))
  at_case y s u scope h met =
      let z = case_under Q y in
      let sort_is = fold-roll-Case Sorting sorts.Arm (sort_step p.types p.functions) sorts.arm_step z in
      let sites_are = para-roll-Case Sites CaseSites (site_step p.types p.functions)
      (case_sites p.types p.functions) z in
      subst (λ (a : Arm). ArmCompiles p.types σ scope s u a)
      (sym (fold-roll-Case Compiling Arm (compile_step asked site) arm_step z))
      (by_parts y.pattern y.guard y.body s u scope
      (sym (ap (λ (a : sorts.Arm). sorts.arm_sort p.types p.functions a s scope) sort_is) ∙ h)
      (subst (λ (a : CaseSites). AreMet p i (a s scope)) sites_are met))

  -- ---- the induction

  at_level : (y : layer.Expr-F (With P) (With Q)) → P (roll-Expr (under y))
  at_level y scope s h met =
      let z = under y in
      let sort_is = fold-roll-Expr Sorting sorts.Arm (sort_step p.types p.functions) sorts.arm_step z in
      let sites_are = para-roll-Expr Sites CaseSites (site_step p.types p.functions)
      (case_sites p.types p.functions) z in
      subst (λ (m : Compiling). Compiles p.types σ scope s m)
      (sym (fold-roll-Expr Compiling Arm (compile_step asked site) arm_step z))
      (level y scope s (sym (ap (λ (a : Sorting). a scope) sort_is) ∙ h)
      (subst (λ (a : Sites). AreMet p i (a scope)) sites_are met))

  -- the steps of an expression
  pub expr_compiles : (e : Expr) (scope : List Sort) (s : Sort) → sort_of p.types p.functions e scope ≡ Some s
      → AreMet p i (sites p.types p.functions e scope) → Compiles p.types σ scope s (compile asked site e)
  expr_compiles = each_expr P Q at_level at_case
