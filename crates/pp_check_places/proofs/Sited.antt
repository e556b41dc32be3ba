-- The sites of a sorted expression have its kinds.
use Rattle.std.proofs.Common.{◌≡◌, List, [], ◌∷◌, ◌++◌, map, Option, Some, None, refl, sym, ap, ◌∙◌, subst}
use Rattle.std.proofs.lemmas.List.{map-append}
use Rattle.std.specs.Prelude.{slice_get, Bool, true, false}
use Rattle.pp_list.proofs.With.{With, elements}
use Rattle.pp_prog.proofs.Induction.{case_under, each_expr, under}
use Rattle.pp_prog.specs.ExprSorts.{case_sorts}
use Rattle.pp_prog.specs.Listing.{sites_in_case, with_case_sites, with_sites}
use Rattle.pp_list.specs.Joined.{joined}
use Rattle.pp_check_places.proofs.SiteKinds.{Kinds, case_kinds, kinds, kinds_step, case_kinds_step, division_kinds}
use Rattle.pp_check_places.proofs.SiteKinds.{operator_kinds, site_kind, site_kinds, rolled, rolled_case}
use Rattle.pp_prog.specs.ExprSorts.{Sorting, alike, arm_with, arms_sort, field_sort, sort_of, sort_step, sorts_in}
use Rattle.pp_prog.specs.ExprSorts as sorts
use Rattle.pp_prog.specs.Listing.{CaseSites, Site, Sites, assertion, precondition, measure, at_sort, case_sites}
use Rattle.pp_prog.specs.Listing.{division_site, guard_sites, matching, operator_site, site_step, sites, sites_of_all}
use Rattle.pp_prog.specs.Listing.{sites_of_cases, unguarded, with_bound}
use Rattle.pp_prog.specs.PatternSorts.{bound_sorts}
use Rattle.pp_prog.specs.Sorts.{param_sorts}
use Rattle.pp_prog.specs.declared.check.CheckKind.TheVariants as kind
use Rattle.pp_operators.specs.Classes.{is_division}
use Rattle.pp_tree.specs.declared.operator.BinaryOp.{BinaryOp}
use Rattle.pp_prog.specs.declared.expr.Case.{Case}
use Rattle.pp_prog.specs.declared.expr.Expr.{Expr}
use Rattle.pp_prog.specs.declared.expr.Expr.TheFolds.{fold-roll-Case, fold-roll-Expr, map-Case}
use Rattle.pp_prog.specs.declared.expr.Expr.TheFolds.{map-Expr, para-roll-Case, para-roll-Expr}
use Rattle.pp_prog.specs.declared.expr.Expr.TheOpen as layer
use Rattle.pp_prog.specs.declared.expr.Expr.TheViews.{roll-Case, roll-Expr}
use Rattle.pp_prog.specs.declared.expr.Pattern.{Pattern}
use Rattle.pp_prog.specs.declared.id.CheckId.{CheckId}
use Rattle.pp_prog.specs.declared.program.Program.{Program}
use Rattle.pp_prog.specs.declared.sort.Sort.{Sort}
use Rattle.pp_prog.specs.declared.sort.Sort.TheVariants as sort
use Rattle.pp_sound.proofs.Cases.{EachArm, each_arm}
use Rattle.pp_prog.proofs.PartSorts.{alike_are, bool_then, call_sort_is, sort_then, tree_sort_is, binary_parts}
use Rattle.pp_prog.proofs.PartSorts.{tree_then, unary_part}
use Rattle.pp_validity.proofs.Listed.{joined_append}

-- ---- kinds of sites

pub site_kinds_append : (a b : List Site) → site_kinds (a ++ b) ≡ site_kinds a ++ site_kinds b
site_kinds_append a b = ap joined (map-append site_kind a b) ∙ joined_append (map site_kind a) (map site_kind b)

-- the sites have these kinds
pub record HasKinds (ss : List Site) (ks : Kinds) : Type 0 where
  pub are : site_kinds ss ≡ ks

division_kind : (b : Bool) (check : Option CheckId) → site_kinds (division_site b check ∷ []) ≡ division_kinds b
division_kind true check = refl
division_kind false check = refl

operator_kind : (op : BinaryOp) (check : Option CheckId) → site_kinds (operator_site op check ∷ []) ≡ operator_kinds op
operator_kind op check = division_kind (is_division op) check

operator_has : (op : BinaryOp) (check : Option CheckId) → HasKinds (operator_site op check ∷ []) (operator_kinds op)
operator_has op check = record { are = operator_kind op check }

pub none_has : HasKinds [] []
none_has = record { are = refl }

-- one after another
pub two : {a b : List Site} {k l : Kinds} → HasKinds a k → HasKinds b l → HasKinds (a ++ b) (k ++ l)
two {a = a} {b = b} {k = k} one other = record {
  are = site_kinds_append a b ∙ ap (λ z. z ++ site_kinds b) one.are ∙ ap (λ z. k ++ z) other.are;
}

-- a site, and more
pub before : {rest : List Site} {ks : Kinds} (site : Site) → HasKinds rest ks
    → HasKinds (site ∷ rest) (site_kind site ++ ks)
before site more = record { are = ap (λ z. site_kind site ++ z) more.are }

module _ (p : Program) where
  abbrev Sorted : Expr → Sorting
  Sorted = sort_of p.types p.functions

  abbrev Placed : Expr → Sites
  Placed = sites p.types p.functions

  abbrev SortedArm : Case → sorts.Arm
  SortedArm = case_sorts p.types p.functions

  abbrev PlacedArm : Case → CaseSites
  PlacedArm = sites_in_case p.types p.functions

  abbrev IsSited : Expr → Type 0
  IsSited e = (scope : List Sort) (s : Sort) → Sorted e scope ≡ Some s → HasKinds (Placed e scope) (kinds e)

  abbrev IsSitedCase : Case → Type 0
  IsSitedCase k = (s u : Sort) (scope : List Sort) → sorts.arm_sort p.types p.functions (SortedArm k) s scope ≡ Some u
      → HasKinds (PlacedArm k s scope) (case_kinds k)

  all_sited : (ys : List (With IsSited)) (ts : List Sort) (scope : List Sort)
      → sorts_in scope (map Sorted (elements ys)) ≡ map Some ts
      → HasKinds (sites_of_all (with_sites p.types p.functions (elements ys)) scope) (joined (map kinds (elements ys)))
  all_sited [] ts scope h = none_has
  all_sited (y ∷ ys) [] scope h = cc
  all_sited (y ∷ ys) (t ∷ ts) scope h =
      let here : Sorted y.0 scope ≡ Some t = cc in
      let rest : sorts_in scope (map Sorted (elements ys)) ≡ map Some ts = cc in
      two (y.1 scope t here) (all_sited ys ts scope rest)

  cases_sited : (ys : List (With IsSitedCase)) (s u : Sort) (scope : List Sort)
      → EachArm p s u scope (map SortedArm (elements ys))
      → HasKinds (sites_of_cases (with_case_sites p.types p.functions (elements ys)) s scope)
      (joined (map case_kinds (elements ys)))
  cases_sited [] s u scope each = none_has
  cases_sited (y ∷ ys) s u scope each = two (y.1 s u scope each.0) (cases_sited ys s u scope each.1)

  abbrev sorted : layer.Expr-F (With IsSited) (With IsSitedCase) → Sorting
  sorted y = sort_step p.types p.functions (map-Expr Expr Case Sorting sorts.Arm Sorted SortedArm (under y))

  abbrev placed : layer.Expr-F (With IsSited) (With IsSitedCase) → Sites
  placed y =
      site_step p.types p.functions
      (map-Expr Expr Case (Expr × Sites) (Case × CaseSites) (λ e. (e, Placed e)) (λ k. (k, PlacedArm k)) (under y))

  level : (y : layer.Expr-F (With IsSited) (With IsSitedCase)) (scope : List Sort) (s : Sort) → sorted y scope ≡ Some s
      → HasKinds (placed y scope) (kinds_step (map-Expr Expr Case Kinds Kinds kinds case_kinds (under y)))
  level (layer.Int n) scope s h = none_has
  level (layer.Bool b) scope s h = none_has
  level (layer.Var k) scope s h = none_has
  level (layer.Unary op a) scope s h = let t = unary_part op (Sorted a.0 scope) s h in a.1 scope t.0 t.1
  level (layer.Binary op a b check) scope s h =
      let t = binary_parts op (Sorted a.0 scope) (Sorted b.0 scope) s h in
      two (two (a.1 scope t.0.0 t.0.1) (b.1 scope t.1.0 t.1.1)) (operator_has op check)
  level (layer.Construct c args) scope s h =
      let k = tree_sort_is (slice_get p.types.ctors c.0) (sorts_in scope (map Sorted (elements args))) s h in
      all_sited args k.0.fields scope k.2
  level (layer.Field e k) scope s h =
      let d = tree_then (Sorted e.0 scope) (λ d. field_sort p.types p.functions d k) s h in
      e.1 scope (sort.Tree d.0) d.1
  level (layer.If c a b) scope s h =
      let t = bool_then (Sorted c.0 scope) (alike (Sorted a.0 scope) (Sorted b.0 scope)) s h in
      let both = alike_are (Sorted a.0 scope) (Sorted b.0 scope) s t.1 in
      two (two (c.1 scope sort.Bool t.0) (a.1 scope s both.0)) (b.1 scope s both.1)
  level (layer.Match e ys check) scope s h =
      let arms = map SortedArm (elements ys) in
      let placed_cases = with_case_sites p.types p.functions (elements ys) in
      let go : Sort → List Site =
      λ t. matching t (unguarded placed_cases) check ∷ sites_of_cases placed_cases t scope in
      let ks = kind.Match ∷ joined (map case_kinds (elements ys)) in
      let t = sort_then (Sorted e.0 scope) (λ t. arms_sort p.types p.functions arms t scope) s h in
      let after = before (matching t.0 (unguarded placed_cases) check)
      (cases_sited ys t.0 s scope (each_arm p t.0 s scope arms t.2)) in
      two (e.1 scope t.0 t.1) (subst (λ o. HasKinds (at_sort o go) ks) (sym t.1) after)
  level (layer.Val bound rest) scope s h =
      let go : Sort → List Site = λ t. Placed rest.0 (scope ++ t ∷ []) in
      let t = sort_then (Sorted bound.0 scope) (λ t. Sorted rest.0 (scope ++ t ∷ [])) s h in
      two (bound.1 scope t.0 t.1)
      (subst (λ o. HasKinds (at_sort o go) (kinds rest.0)) (sym t.1) (rest.1 (scope ++ t.0 ∷ []) s t.2))
  level (layer.Assert check c rest) scope s h =
      let t = bool_then (Sorted c.0 scope) (Sorted rest.0 scope) s h in
      two (c.1 scope sort.Bool t.0) (before (assertion check) (rest.1 scope s t.1))
  level (layer.Call g args pre down) scope s h =
      let f = call_sort_is (slice_get p.functions g.0) (sorts_in scope (map Sorted (elements args))) s h in
      two (all_sited args (param_sorts f.0.params) scope f.2)
      (before (precondition g pre) (before (measure g down) none_has))

  -- ---- one case

  plain_sited : (pattern : Pattern) (b : With IsSited) (ss : Option (List Sort)) (scope : List Sort) (u : Sort)
      → arm_with (record { pattern = pattern; guard = None; body = Sorted b.0 }) scope ss ≡ Some u
      → HasKinds (with_bound ss (λ bound. guard_sites None (scope ++ bound) ++ Placed b.0 (scope ++ bound))) (kinds b.0)
  plain_sited pattern b None scope u h = cc
  plain_sited pattern b (Some ts) scope u h = b.1 (scope ++ ts) u h

  guarded_sited : (pattern : Pattern) (g b : With IsSited) (ss : Option (List Sort)) (scope : List Sort) (u : Sort)
      → arm_with (record { pattern = pattern; guard = Some (Sorted g.0); body = Sorted b.0 }) scope ss ≡ Some u
      → HasKinds
      (with_bound ss (λ bound. guard_sites (Some (g.0, Placed g.0)) (scope ++ bound) ++ Placed b.0 (scope ++ bound)))
      (kinds g.0 ++ kinds b.0)
  guarded_sited pattern g b None scope u h = cc
  guarded_sited pattern g b (Some ts) scope u h =
      let are = bool_then (Sorted g.0 (scope ++ ts)) (Sorted b.0 (scope ++ ts)) u h in
      two (g.1 (scope ++ ts) sort.Bool are.0) (b.1 (scope ++ ts) u are.1)

  by_parts : (pattern : Pattern) (guard : Option (With IsSited)) (b : With IsSited) (s u : Sort) (scope : List Sort)
      → let z = case_under IsSitedCase (record { pattern = pattern; guard = guard; body = b }) in
      sorts.arm_sort p.types p.functions (sorts.arm_step
      (map-Case Expr Case Sorting sorts.Arm Sorted SortedArm z)) s scope
      ≡ Some u
      → HasKinds
      (case_sites p.types p.functions
      (map-Case Expr Case (Expr × Sites) (Case × CaseSites) (λ e. (e, Placed e)) (λ k. (k, PlacedArm k)) z) s scope)
      (case_kinds_step (map-Case Expr Case Kinds Kinds kinds case_kinds z))
  by_parts pattern None b s u scope h = plain_sited pattern b (bound_sorts p.types.ctors pattern s) scope u h
  by_parts pattern (Some g) b s u scope h = guarded_sited pattern g b (bound_sorts p.types.ctors pattern s) scope u h

  at_case : (y : layer.Case-F (With IsSited) (With IsSitedCase)) → IsSitedCase (roll-Case (case_under IsSitedCase y))
  at_case y s u scope h =
      let z = case_under IsSitedCase y in
      let sort_is = fold-roll-Case Sorting sorts.Arm (sort_step p.types p.functions) sorts.arm_step z in
      let sites_are =
      para-roll-Case Sites CaseSites (site_step p.types p.functions) (case_sites p.types p.functions) z in
      subst (λ (a : CaseSites). HasKinds (a s scope) (case_kinds (roll-Case z))) (sym sites_are)
      (subst (HasKinds _) (sym (rolled_case z))
      (by_parts y.pattern y.guard y.body s u scope
      (sym (ap (λ (a : sorts.Arm). sorts.arm_sort p.types p.functions a s scope) sort_is) ∙ h)))

  at_level : (y : layer.Expr-F (With IsSited) (With IsSitedCase)) → IsSited (roll-Expr (under y))
  at_level y scope s h =
      let z = under y in
      let sort_is = fold-roll-Expr Sorting sorts.Arm (sort_step p.types p.functions) sorts.arm_step z in
      let sites_are =
      para-roll-Expr Sites CaseSites (site_step p.types p.functions) (case_sites p.types p.functions) z in
      subst (λ (a : Sites). HasKinds (a scope) (kinds (roll-Expr z))) (sym sites_are)
      (subst (HasKinds (placed y scope)) (sym (rolled z))
      (level y scope s (sym (ap (λ (a : Sorting). a scope) sort_is) ∙ h)))

  -- the sites of an expression that has a sort have its kinds
  pub expr_sited : (e : Expr) → IsSited e
  expr_sited =
      each_expr IsSited IsSitedCase at_level at_case
