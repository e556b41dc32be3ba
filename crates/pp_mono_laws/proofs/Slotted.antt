-- The sites of an expression that has a sort have its slots.
use Rattle.std.proofs.Common.{◌≡◌, true, List, [], ◌∷◌, ◌++◌, map, Option, Some, None, slice_get, refl, sym, ap, ◌∙◌}
use Rattle.std.proofs.Common.{Bool, false}
use Rattle.std.proofs.lemmas.Bool.{and_parts}
use Rattle.std.proofs.lemmas.List.{map-append}
use Rattle.pp_list.proofs.With.{With, elements}
use Rattle.pp_prog.proofs.Induction.{case_under, each_expr, under}
use Rattle.pp_prog.specs.ExprSorts.{case_sorts}
use Rattle.pp_prog.specs.Listing.{beside, case_beside, sites_in_case}
use Rattle.pp_list.specs.Joined.{joined}
use Rattle.pp_prog.specs.ExprSorts.{Arm, Sorting, alike, arm_sort, arm_step, arm_with, arms_like, arms_sort, field_sort}
use Rattle.pp_prog.specs.ExprSorts.{is_sorted, is_sorted_measure, is_sorted_post, is_sorted_pre, sort_of, sort_step}
use Rattle.pp_prog.specs.ExprSorts.{sorts_in}
use Rattle.pp_prog.specs.Listing.{CaseSites, Site, Sites, at_sort, case_sites, function_sites, matching, measure_sites}
use Rattle.pp_prog.specs.Listing.{division_site, operator_site, post_sites, pre_sites, site_step, sites, sites_of_all}
use Rattle.pp_prog.specs.Listing.{sites_of_cases, unguarded, with_bound}
use Rattle.pp_prog.specs.PatternSorts.{bound_sorts}
use Rattle.pp_prog.specs.Sorts.{param_sorts}
use Rattle.pp_operators.specs.Classes.{is_division}
use Rattle.pp_tree.specs.declared.operator.BinaryOp.{BinaryOp}
use Rattle.pp_prog.specs.declared.expr.Case.{Case}
use Rattle.pp_prog.specs.declared.expr.Expr.{Expr}
use Rattle.pp_prog.specs.declared.expr.Expr.TheFolds.{fold-roll-Case, fold-roll-Expr, map-Case}
use Rattle.pp_prog.specs.declared.expr.Expr.TheFolds.{map-Expr, para-roll-Case, para-roll-Expr}
use Rattle.pp_prog.specs.declared.expr.Expr.TheOpen as layer
use Rattle.pp_prog.specs.declared.expr.Expr.TheViews.{roll-Case, roll-Expr}
use Rattle.pp_prog.specs.declared.expr.Function.{Function}
use Rattle.pp_prog.specs.declared.expr.Pattern.{Pattern}
use Rattle.pp_prog.specs.declared.id.CheckId.{CheckId}
use Rattle.pp_prog.specs.declared.sort.Sort.{Sort}
use Rattle.pp_prog.specs.declared.types.TypeTable.{TypeTable}
use Rattle.pp_prog.proofs.PartSorts.{alike_are, binary_parts, bool_then, call_sort_is, has_the_sort_is, some_sort}
use Rattle.pp_prog.proofs.PartSorts.{sort_then, tree_sort_is, tree_then, unary_part}
use Rattle.pp_mono_laws.proofs.Slots.{Slots, case_slots, case_step, function_slots, post_slots, pre_slots, slot_of}
use Rattle.pp_mono_laws.proofs.Slots.{slot_step, slots}

division_slot : (b : Bool) (n : Option CheckId) → map slot_of (division_site b n ∷ []) ≡ n ∷ []
division_slot true n = refl
division_slot false n = refl

operator_slot : (op : BinaryOp) (n : Option CheckId) → map slot_of (operator_site op n ∷ []) ≡ n ∷ []
operator_slot op n = division_slot (is_division op) n

-- sites, one part after another
both_slotted : (xs ys : List Site) {a b : Slots} → map slot_of xs ≡ a → map slot_of ys ≡ b
    → map slot_of (xs ++ ys) ≡ a ++ b
both_slotted xs ys {a} p q = map-append slot_of xs ys ∙ ap (λ l. l ++ map slot_of ys) p ∙ ap (λ l. a ++ l) q

module _ (types : TypeTable) (fs : List Function) where
  abbrev S : Expr → Sorting
  S = sort_of types fs

  abbrev arm_of : Case → Arm
  arm_of = case_sorts types fs

  abbrev In : Expr → Sites
  In = sites types fs

  abbrev in_case : Case → CaseSites
  in_case = sites_in_case types fs

  -- one level, with the sites of the parts beside them
  abbrev pub site_parts : layer.Expr-F Expr Case → layer.Expr-F (Expr × Sites) (Case × CaseSites)
  site_parts = map-Expr Expr Case (Expr × Sites) (Case × CaseSites) (beside types fs) (case_beside types fs)

  abbrev pub case_parts : layer.Case-F Expr Case → layer.Case-F (Expr × Sites) (Case × CaseSites)
  case_parts = map-Case Expr Case (Expr × Sites) (Case × CaseSites) (beside types fs) (case_beside types fs)

  abbrev P : Expr → Type 0
  P e = (scope : List Sort) (s : Sort) → S e scope ≡ Some s → map slot_of (In e scope) ≡ slots e

  abbrev Q : Case → Type 0
  Q c = (s : Sort) (scope : List Sort) (u : Sort) → arm_sort types fs (arm_of c) s scope ≡ Some u
      → map slot_of (in_case c s scope) ≡ case_slots c

  exprs_slotted : (ys : List (With P)) (scope ts : List Sort) → sorts_in scope (map S (elements ys)) ≡ map Some ts
      → map slot_of (sites_of_all (map (beside types fs) (elements ys)) scope)
      ≡ joined (map slots (elements ys))
  exprs_slotted [] scope ts h = refl
  exprs_slotted (y ∷ ys) scope [] h = cc
  exprs_slotted (y ∷ ys) scope (t ∷ ts) h =
      let one : S y.0 scope ≡ Some t = cc in
      let more : sorts_in scope (map S (elements ys)) ≡ map Some ts = cc in
      both_slotted (In y.0 scope) (sites_of_all (map (beside types fs) (elements ys)) scope) (y.1 scope t one)
      (exprs_slotted ys scope ts more)

  abbrev in_cases : List (With Q) → Sort → List Sort → List Site
  in_cases ys s scope = sites_of_cases (map (case_beside types fs) (elements ys)) s scope

  abbrev slots_in : List (With Q) → Slots
  slots_in ys = joined (map case_slots (elements ys))

  each_case : (ys : List (With Q)) (t : Option Sort) (s : Sort) (scope : List Sort) (u : Sort)
      → arms_like types fs t (map arm_of (elements ys)) s scope ≡ Some u
      → (t ≡ Some u) × (map slot_of (in_cases ys s scope) ≡ slots_in ys)
  each_case [] t s scope u h = (h, refl)
  each_case (y ∷ ys) t s scope u h =
      let here = arm_sort types fs (arm_of y.0) s scope in
      let rest = each_case ys (alike t here) s scope u h in
      let both = alike_are t here u rest.0 in
      (both.0, both_slotted (in_case y.0 s scope) (in_cases ys s scope) (y.1 s scope u both.1) rest.1)

  all_cases : (ys : List (With Q)) (s : Sort) (scope : List Sort) (u : Sort)
      → arms_sort types fs (map arm_of (elements ys)) s scope ≡ Some u
      → map slot_of (in_cases ys s scope) ≡ slots_in ys
  all_cases [] s scope u h = cc
  all_cases (y ∷ ys) s scope u h =
      let rest = each_case ys (arm_sort types fs (arm_of y.0) s scope) s scope u h in
      both_slotted (in_case y.0 s scope) (in_cases ys s scope) (y.1 s scope u rest.0) rest.1

  abbrev sort_parts : layer.Expr-F Expr Case → layer.Expr-F Sorting Arm
  sort_parts = map-Expr Expr Case Sorting Arm S arm_of

  abbrev slot_parts : layer.Expr-F Expr Case → layer.Expr-F Slots Slots
  slot_parts = map-Expr Expr Case Slots Slots slots case_slots

  level : (y : layer.Expr-F (With P) (With Q)) (scope : List Sort) (s : Sort)
      → sort_step types fs (sort_parts (under y)) scope ≡ Some s
      → map slot_of (site_step types fs (site_parts (under y)) scope) ≡ slot_step (slot_parts (under y))
  level (layer.Int n) scope s h = refl
  level (layer.Bool b) scope s h = refl
  level (layer.Var i) scope s h = refl
  level (layer.Unary op a) scope s h = let t = unary_part op (S a.0 scope) s h in a.1 scope t.0 t.1
  level (layer.Binary op a b check) scope s h =
      let t = binary_parts op (S a.0 scope) (S b.0 scope) s h in
      both_slotted (In a.0 scope ++ In b.0 scope) (operator_site op check ∷ [])
      (both_slotted (In a.0 scope) (In b.0 scope) (a.1 scope t.0.0 t.0.1) (b.1 scope t.1.0 t.1.1))
      (operator_slot op check)
  level (layer.Construct c args) scope s h =
      let k = tree_sort_is (slice_get types.ctors c.0) (sorts_in scope (map S (elements args))) s h in
      exprs_slotted args scope k.0.fields k.2
  level (layer.Field e k) scope s h =
      let t = tree_then (S e.0 scope) (λ d. field_sort types fs d k) s h in e.1 scope _ t.1
  level (layer.If c a b) scope s h =
      let t = bool_then (S c.0 scope) (alike (S a.0 scope) (S b.0 scope)) s h in
      let both = alike_are (S a.0 scope) (S b.0 scope) s t.1 in
      both_slotted (In c.0 scope ++ In a.0 scope) (In b.0 scope)
      (both_slotted (In c.0 scope) (In a.0 scope) (c.1 scope _ t.0) (a.1 scope s both.0)) (b.1 scope s both.1)
  level (layer.Match e cases check) scope s h =
      let arms = map arm_of (elements cases) in
      let cs = map (case_beside types fs) (elements cases) in
      let go : Sort → List Site = λ u. matching u (unguarded cs) check ∷ sites_of_cases cs u scope in
      let t = sort_then (S e.0 scope) (λ u. arms_sort types fs arms u scope) s h in
      both_slotted (In e.0 scope) (at_sort (S e.0 scope) go) (e.1 scope t.0 t.1)
      (ap (λ o. map slot_of (at_sort o go)) t.1 ∙ ap (λ l. check ∷ l) (all_cases cases t.0 scope s t.2))
  level (layer.Val a b) scope s h =
      let go : Sort → List Site = λ u. In b.0 (scope ++ u ∷ []) in
      let t = sort_then (S a.0 scope) (λ u. S b.0 (scope ++ u ∷ [])) s h in
      both_slotted (In a.0 scope) (at_sort (S a.0 scope) go) (a.1 scope t.0 t.1)
      (ap (λ o. map slot_of (at_sort o go)) t.1 ∙ b.1 (scope ++ t.0 ∷ []) s t.2)
  level (layer.Assert check c e) scope s h =
      let t = bool_then (S c.0 scope) (S e.0 scope) s h in
      both_slotted (In c.0 scope) _ (c.1 scope _ t.0) (ap (λ l. Some check ∷ l) (e.1 scope s t.1))
  level (layer.Call g args pre down) scope s h =
      let k = call_sort_is (slice_get fs g.0) (sorts_in scope (map S (elements args))) s h in
      both_slotted (sites_of_all (map (beside types fs) (elements args)) scope) _
      (exprs_slotted args scope (param_sorts k.0.params) k.2) refl

  at_level : (y : layer.Expr-F (With P) (With Q)) → P (roll-Expr (under y))
  at_level y scope s h =
      let z = under y in
      ap (λ (f : Sites). map slot_of (f scope))
      (para-roll-Expr Sites CaseSites (site_step types fs) (case_sites types fs) z)
      ∙ level y scope s
      (sym (ap (λ (f : Sorting). f scope) (fold-roll-Expr Sorting Arm (sort_step types fs) arm_step z)) ∙ h)
      ∙ sym (fold-roll-Expr Slots Slots slot_step case_step z)

  plain_arm : (b : With P) (scope : List Sort) (u : Sort) (p : Pattern) (bound : Option (List Sort))
      → arm_with (record { pattern = p; guard = None; body = S b.0 }) scope bound ≡ Some u
      → map slot_of (with_bound bound (λ more. In b.0 (scope ++ more))) ≡ slots b.0
  plain_arm b scope u p None h = cc
  plain_arm b scope u p (Some bound) h = b.1 (scope ++ bound) u h

  guarded_arm : (g b : With P) (scope : List Sort) (u : Sort) (p : Pattern) (bound : Option (List Sort))
      → arm_with (record { pattern = p; guard = Some (S g.0); body = S b.0 }) scope bound ≡ Some u
      → map slot_of (with_bound bound (λ more. In g.0 (scope ++ more) ++ In b.0 (scope ++ more)))
      ≡ slots g.0 ++ slots b.0
  guarded_arm g b scope u p None h = cc
  guarded_arm g b scope u p (Some bound) h =
      let t = bool_then (S g.0 (scope ++ bound)) (S b.0 (scope ++ bound)) u h in
      both_slotted (In g.0 (scope ++ bound)) (In b.0 (scope ++ bound))
      (g.1 (scope ++ bound) _ t.0) (b.1 (scope ++ bound) u t.1)

  at_parts : (p : Pattern) (o : Option (With P)) (b : With P) (s : Sort) (scope : List Sort) (u : Sort)
      → let z = case_under Q (record { pattern = p; guard = o; body = b }) in
      arm_sort types fs (arm_step (map-Case Expr Case Sorting Arm S arm_of z)) s scope ≡ Some u
      → map slot_of (case_sites types fs (case_parts z) s scope)
      ≡ case_step (map-Case Expr Case Slots Slots slots case_slots z)
  at_parts p None b s scope u h = plain_arm b scope u p (bound_sorts types.ctors p s) h
  at_parts p (Some g) b s scope u h = guarded_arm g b scope u p (bound_sorts types.ctors p s) h

  at_case : (y : layer.Case-F (With P) (With Q)) → Q (roll-Case (case_under Q y))
  at_case y s scope u h =
      let z = case_under Q y in
      ap (λ (f : CaseSites). map slot_of (f s scope))
      (para-roll-Case Sites CaseSites (site_step types fs) (case_sites types fs) z)
      ∙ at_parts y.pattern y.guard y.body s scope u
      (sym (ap (λ (a : Arm). arm_sort types fs a s scope)
      (fold-roll-Case Sorting Arm (sort_step types fs) arm_step z)) ∙ h)
      ∙ sym (fold-roll-Case Slots Slots slot_step case_step z)

  sites_slots : (e : Expr) → P e
  sites_slots = each_expr P Q at_level at_case

  pre_has : (pre : Option Expr) (scope : List Sort) → is_sorted_pre types fs pre scope ≡ true
      → map slot_of (pre_sites types fs pre scope) ≡ pre_slots pre
  pre_has None scope h = refl
  pre_has (Some e) scope h = sites_slots e scope _ (has_the_sort_is types fs _ (S e scope) h)

  measure_has : (es : List Expr) (scope : List Sort) → is_sorted_measure types fs es scope ≡ true
      → map slot_of (measure_sites types fs es scope) ≡ joined (map slots es)
  measure_has [] scope h = refl
  measure_has (e ∷ es) scope h =
      let parts = and_parts _ _ h in
      let s = some_sort (S e scope) parts.0 in
      both_slotted (In e scope) (measure_sites types fs es scope)
      (sites_slots e scope s.0 s.1) (measure_has es scope parts.1)

  post_has : (post : Option (CheckId × Expr)) (result : Sort) (scope : List Sort)
      → is_sorted_post types fs post (scope ++ result ∷ []) ≡ true
      → map slot_of (post_sites types fs post result scope) ≡ post_slots post
  post_has None result scope h = refl
  post_has (Some post) result scope h =
      both_slotted (In post.1 (scope ++ result ∷ [])) _
      (sites_slots post.1 (scope ++ result ∷ []) _
      (has_the_sort_is types fs _ (S post.1 (scope ++ result ∷ [])) h)) refl

  -- the sites of a function whose expressions have sorts have its slots
  pub function_has : (f : Function) → is_sorted types fs f ≡ true
      → map slot_of (function_sites types fs f) ≡ function_slots f
  function_has f h =
      let scope = param_sorts f.params in
      let a = and_parts _ _ h in
      let b = and_parts _ _ a.1 in
      let c = and_parts _ _ b.1 in
      let pre = pre_sites types fs f.pre scope in
      let down = measure_sites types fs f.measure scope in
      both_slotted (pre ++ down ++ In f.body scope) (post_sites types fs f.post f.result scope)
      (both_slotted (pre ++ down) (In f.body scope)
      (both_slotted pre down (pre_has f.pre scope a.0) (measure_has f.measure scope b.0))
      (sites_slots f.body scope _ (has_the_sort_is types fs _ (S f.body scope) c.0)))
      (post_has f.post f.result scope c.1)
