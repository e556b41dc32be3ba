-- The meaning of a sorted expression is fine, where its sites are met and calls are good.
use Rattle.std.proofs.Common.{◌≡◌, ℕ, true, false, List, [], ◌∷◌, ◌++◌, map, Option, Some, None, is_some, slice_get, Ok}
use Rattle.std.proofs.Common.{refl, sym, ap, ◌∙◌, subst, append_assoc, append-nil}
use Rattle.std.proofs.lemmas.Bool.{or_from}
use Rattle.pp_list.proofs.With.{With, elements}
use Rattle.pp_prog.proofs.Induction.{case_under, each_expr, under}
use Rattle.pp_prog.specs.ExprSorts.{case_sorts}
use Rattle.pp_prog.specs.Listing.{sites_in_case, with_case_sites, with_sites}
use Rattle.pp_prog.specs.declared.expr.Case.{Case}
use Rattle.pp_prog.specs.declared.expr.Expr.{Expr}
use Rattle.pp_prog.specs.declared.expr.Expr.TheFolds.{fold-roll-Case, fold-roll-Expr, map-Case}
use Rattle.pp_prog.specs.declared.expr.Expr.TheFolds.{map-Expr, para-roll-Case, para-roll-Expr}
use Rattle.pp_prog.specs.declared.expr.Expr.TheOpen as layer
use Rattle.pp_prog.specs.declared.expr.Expr.TheViews.{roll-Case, roll-Expr}
use Rattle.pp_prog.specs.declared.expr.Function.{Function}
use Rattle.pp_prog.specs.declared.expr.Pattern.{Pattern}
use Rattle.pp_prog.specs.declared.id.CheckId.{CheckId}
use Rattle.pp_prog.specs.declared.id.FunctionId.{FunctionId}
use Rattle.pp_prog.specs.declared.program.Program.{Program}
use Rattle.pp_prog.specs.declared.sort.Sort.{Sort}
use Rattle.pp_prog.specs.declared.sort.Sort.TheVariants as sort
use Rattle.pp_prog.specs.declared.value.Value.{Value}
use Rattle.pp_prog.specs.declared.value.Value.TheVariants.{Int, Bool as Truth, Tree}
use Rattle.pp_prog.specs.ExprSorts.{Sorting, alike, arm_with, arms_sort, field_sort, sort_of, sort_step, sorts_in}
use Rattle.pp_prog.specs.ExprSorts as sorts
use Rattle.pp_prog.specs.Fits.{fit, fits}
use Rattle.pp_prog.specs.Listing.{CaseSites, Sites, at_sort, case_sites, guard_sites, matching, measure, precondition}
use Rattle.pp_prog.specs.Listing.{site_step, sites, sites_of_all, sites_of_cases, unguarded, with_bound}
use Rattle.pp_prog.specs.PatternSorts.{bound_sorts}
use Rattle.pp_prog.specs.Sorts.{is_int, param_sorts}
use Rattle.pp_eval.specs.Meaning.{CallMeaning, Frame, Meaning, all_from, arm, attempt, attempt_with, first_case}
use Rattle.pp_eval.specs.Meaning.{meaning, meaning_step, taken}
use Rattle.pp_eval.specs.Meaning as mean
use Rattle.pp_eval.specs.Part.{Part, found}
use Rattle.pp_sound.proofs.Cases.{EachArm, IsMissed, IsTaken, MayReach, each_arm, or_next_fine, reaches_first}
use Rattle.pp_sound.proofs.Cases.{reaches_next, taken_fine}
use Rattle.pp_prog.proofs.ValueSorts.{Has, Have, have_at, have_more, have_one, int_has, tree_has_sort, truth_has}
use Rattle.pp_sound.proofs.Fields.{field_is}
use Rattle.pp_sound.proofs.Operators.{at_sort as at_its_sort, binary_fine, condition, judged, unary_fine}
use Rattle.pp_sound.proofs.Parts.{IsFine, IsSorted, MayStop, fine_either, fine_stop, fine_then, fine_value}
use Rattle.pp_sound.proofs.Patterns.{pattern_fine}
use Rattle.pp_sound.proofs.Sites.{AreMet, IsMet, met_head, met_left, met_right, met_tail}
use Rattle.pp_prog.proofs.PartSorts.{alike_are, bool_then, call_sort_is, sort_then, sort_there, tree_sort_is, tree_then}

-- what a call comes to at a site of function number i that is met, on arguments of the parameters' sorts, is fine
pub record AreGood (p : Program) (D : Type 0) (i : ℕ) (calls : CallMeaning) : Type 0 where
  pub part : (frame : Frame) (g : FunctionId) (pre down : Option CheckId) (args : List Value) (f : Function)
      → slice_get p.functions g.0 ≡ Some f
      → Have p.types.ctors (param_sorts f.params) args → IsMet p i (precondition g pre) → IsMet p i (measure g down)
      → IsSorted p D i f.result (calls frame g pre down args)

module _ (p : Program) (D : Type 0) (i : ℕ) (calls : CallMeaning) where
  -- the sort, the sites and the meaning of an expression
  abbrev Sorted : Expr → Sorting
  Sorted = sort_of p.types p.functions

  abbrev Placed : Expr → Sites
  Placed = sites p.types p.functions

  abbrev Meant : Expr → Meaning
  Meant = meaning calls

  -- and those of a case
  abbrev SortedArm : Case → sorts.Arm
  SortedArm = case_sorts p.types p.functions

  abbrev PlacedArm : Case → CaseSites
  PlacedArm = sites_in_case p.types p.functions

  abbrev MeantArm : Case → mean.Arm
  MeantArm = arm calls

  -- the meaning of the expression is fine, in each scope where it has a sort and its sites are met
  abbrev IsSound : Expr → Type 0
  IsSound e = (scope : List Sort) (s : Sort) → Sorted e scope ≡ Some s → AreMet p i (Placed e scope)
      → (frame : Frame) (env : List Value) → Have p.types.ctors scope env → IsSorted p D i s (Meant e frame env)

  -- what the case gives for a value is fine, in each scope where it has a sort and its sites are met
  abbrev IsSoundCase : Case → Type 0
  IsSoundCase k = (s u : Sort) (scope : List Sort) → sorts.arm_sort p.types p.functions (SortedArm k) s scope ≡ Some u
      → AreMet p i (PlacedArm k s scope) → (frame : Frame) (env : List Value) → Have p.types.ctors scope env
      → (v : Value) → Has p.types.ctors s v → IsFine (MayStop p D i) (IsTaken p u (IsMissed k.guard k.pattern v))
      (attempt (MeantArm k) v frame env)

  -- ---- several expressions

  all_fine : (ys : List (With IsSound)) (ts : List Sort) (scope : List Sort)
      → sorts_in scope (map Sorted (elements ys)) ≡ map Some ts
      → AreMet p i (sites_of_all (with_sites p.types p.functions (elements ys)) scope)
      → (frame : Frame) (env : List Value) → Have p.types.ctors scope env → (before : List Sort) (done : List Value)
      → Have p.types.ctors before done
      → IsFine (MayStop p D i) (Have p.types.ctors (before ++ ts)) (all_from done (map Meant (elements ys)) frame env)
  all_fine [] [] scope h met frame env have before done known = fine_value
      (subst (λ l. Have p.types.ctors l done) (sym (append-nil before)) known)
  all_fine [] (t ∷ ts) scope h met frame env have before done known = cc
  all_fine (y ∷ ys) [] scope h met frame env have before done known = cc
  all_fine (y ∷ ys) (t ∷ ts) scope h met frame env have before done known =
      let here : Sorted y.0 scope ≡ Some t = cc in
      let rest : sorts_in scope (map Sorted (elements ys)) ≡ map Some ts = cc in
      fine_then (y.1 scope t here (met_left _ _ met) frame env have)
      (λ v has. subst (λ l. IsFine (MayStop p D i) (Have p.types.ctors l)
      (all_from (done ++ v ∷ []) (map Meant (elements ys)) frame env)) (append_assoc before (t ∷ []) ts)
      (all_fine ys ts scope rest (met_right _ _ met) frame env have (before ++ t ∷ []) (done ++ v ∷ [])
      (have_more p.types.ctors before (t ∷ []) done (v ∷ []) known (have_one p.types.ctors t v has))))

  -- ---- cases

  cases_fine : (ys : List (With IsSoundCase)) (s u : Sort) (scope : List Sort)
      → EachArm p s u scope (map SortedArm (elements ys))
      → AreMet p i (sites_of_cases (with_case_sites p.types p.functions (elements ys)) s scope)
      → (frame : Frame) (env : List Value) → Have p.types.ctors scope env → (v : Value) → Has p.types.ctors s v
      → (check : Option CheckId) → MayReach p i check (unguarded (with_case_sites p.types p.functions (elements ys))) v
      → IsSorted p D i u (first_case (map MeantArm (elements ys)) check v frame env)
  cases_fine [] s u scope each met frame env have v has None may = cc
  cases_fine [] s u scope each met frame env have v has (Some c) may = fine_stop may
  cases_fine (y ∷ ys) s u scope each met frame env have v has check may =
      fine_then (y.1 s u scope each.0 (met_left _ _ met) frame env have v has)
      (λ o taken. or_next_fine p D i u (IsMissed y.0.guard y.0.pattern v) o
      (first_case (map MeantArm (elements ys)) check v frame env) taken
      (λ missed. cases_fine ys s u scope each.1 (met_right _ _ met) frame env have v has check
      (reaches_next p i check y.0.guard y.0.pattern (unguarded (with_case_sites p.types p.functions (elements ys))) v
      missed may)))

  -- ---- one level of an expression

  abbrev sorted : layer.Expr-F (With IsSound) (With IsSoundCase) → Sorting
  sorted y = sort_step p.types p.functions (map-Expr Expr Case Sorting sorts.Arm Sorted SortedArm (under y))

  abbrev placed : layer.Expr-F (With IsSound) (With IsSoundCase) → Sites
  placed y =
      site_step p.types p.functions (map-Expr Expr Case (Expr × Sites) (Case × CaseSites) (λ e. (e, Placed e))
      (λ k. (k, PlacedArm k)) (under y))

  abbrev meant : layer.Expr-F (With IsSound) (With IsSoundCase) → Meaning
  meant y = meaning_step calls (map-Expr Expr Case Meaning mean.Arm Meant MeantArm (under y))

  is_sort : (s t : Sort) (part : Part Value) → s ≡ t → IsSorted p D i s part → IsSorted p D i t part
  is_sort s t part e h = subst (λ u. IsSorted p D i u part) e h

  level : AreGood p D i calls → (y : layer.Expr-F (With IsSound) (With IsSoundCase)) (scope : List Sort) (s : Sort)
      → sorted y scope ≡ Some s
      → AreMet p i (placed y scope) → (frame : Frame) (env : List Value) → Have p.types.ctors scope env
      → IsSorted p D i s (meant y frame env)
  level good (layer.Int n) scope s h met frame env have =
      let e = sort_there (is_int n) sort.Int s h in
      is_sort sort.Int s (Ok (Int n)) e.1 (fine_value (int_has p.types.ctors n e.0))
  level good (layer.Bool b) scope s h met frame env have = at_its_sort p D i sort.Bool (Ok (Truth b))
      (fine_value (truth_has p.types.ctors b)) s h
  level good (layer.Var k) scope s h met frame env have =
      let v = have_at p.types.ctors scope env k s have h in
      subst (λ o. IsSorted p D i s (found o)) (sym v.1) (fine_value v.2)
  level good (layer.Unary op a) scope s h met frame env have =
      unary_fine p D i op (Sorted a.0 scope) (Meant a.0 frame env) (λ t e. a.1 scope t e met frame env have) s h
  level good (layer.Binary op a b check) scope s h met frame env have =
      binary_fine p D i op check (met_head (met_right _ _ met)) (Meant a.0) (Meant b.0) frame env (Sorted a.0 scope)
      (Sorted b.0 scope)
      (λ t e. a.1 scope t e (met_left _ _ (met_left _ _ met)) frame env have)
      (λ t e. b.1 scope t e (met_right _ _ (met_left _ _ met)) frame env have) s h
  level good (layer.Construct c args) scope s h met frame env have =
      let k = tree_sort_is (slice_get p.types.ctors c.0) (sorts_in scope (map Sorted (elements args))) s h in
      fine_then (all_fine args k.0.fields scope k.2 met frame env have [] [] refl)
      (λ vs are. is_sort (sort.Tree k.0.of) s (Ok (Tree c vs)) k.3
      (fine_value (tree_has_sort p.types.ctors c k.0 vs k.1 are)))
  level good (layer.Field e k) scope s h met frame env have =
      let d = tree_then (Sorted e.0 scope) (λ d. field_sort p.types p.functions d k) s h in
      fine_then (e.1 scope (sort.Tree d.0) d.1 met frame env have)
      (λ v has. let w = field_is p d.0 k s d.2 v has in subst (IsSorted p D i s) (sym w.1) (fine_value w.2))
  level good (layer.If c a b) scope s h met frame env have =
      let t = bool_then (Sorted c.0 scope) (alike (Sorted a.0 scope) (Sorted b.0 scope)) s h in
      let both = alike_are (Sorted a.0 scope) (Sorted b.0 scope) s t.1 in
      judged p D i (c.1 scope sort.Bool t.0 (met_left _ _ (met_left _ _ met)) frame env have)
      (λ b'. fine_either b' (a.1 scope s both.0 (met_right _ _ (met_left _ _ met)) frame env have)
      (b.1 scope s both.1 (met_right _ _ met) frame env have))
  level good (layer.Match e ys check) scope s h met frame env have =
      let arms = map SortedArm (elements ys) in
      let placed_cases = with_case_sites p.types p.functions (elements ys) in
      let t = sort_then (Sorted e.0 scope) (λ t. arms_sort p.types p.functions arms t scope) s h in
      let after : AreMet p i (matching t.0 (unguarded placed_cases) check ∷ sites_of_cases placed_cases t.0 scope) =
      subst (λ o. AreMet p i (at_sort o
      (λ t. matching t (unguarded placed_cases) check ∷ sites_of_cases placed_cases t scope))) t.1
      (met_right _ _ met) in
      fine_then (e.1 scope t.0 t.1 (met_left _ _ met) frame env have)
      (λ v has. cases_fine ys t.0 s scope (each_arm p t.0 s scope arms t.2) (met_tail after) frame env have v has check
      (reaches_first p i t.0 (unguarded placed_cases) check (met_head after) v has))
  level good (layer.Val bound rest) scope s h met frame env have =
      let t = sort_then (Sorted bound.0 scope) (λ t. Sorted rest.0 (scope ++ t ∷ [])) s h in
      let after : AreMet p i (Placed rest.0 (scope ++ t.0 ∷ [])) =
      subst (λ o. AreMet p i (at_sort o (λ t. Placed rest.0 (scope ++ t ∷ [])))) t.1 (met_right _ _ met) in
      fine_then (bound.1 scope t.0 t.1 (met_left _ _ met) frame env have)
      (λ v has. rest.1 (scope ++ t.0 ∷ []) s t.2 after frame (env ++ v ∷ [])
      (have_more p.types.ctors scope (t.0 ∷ []) env (v ∷ []) have (have_one p.types.ctors t.0 v has)))
  level good (layer.Assert check c rest) scope s h met frame env have =
      let t = bool_then (Sorted c.0 scope) (Sorted rest.0 scope) s h in
      let after = met_right (Placed c.0 scope) _ met in
      judged p D i (c.1 scope sort.Bool t.0 (met_left _ _ met) frame env have)
      (λ b. fine_either b (rest.1 scope s t.1 (met_tail after) frame env have) (fine_stop (met_head after).own))
  level good (layer.Call g args pre down) scope s h met frame env have =
      let f = call_sort_is (slice_get p.functions g.0) (sorts_in scope (map Sorted (elements args))) s h in
      let own = met_right (sites_of_all (with_sites p.types p.functions (elements args)) scope) _ met in
      fine_then (all_fine args (param_sorts f.0.params) scope f.2 (met_left _ _ met) frame env have [] [] refl)
      (λ vs are. is_sort f.0.result s (calls frame g pre down vs) f.3
      (good.part frame g pre down vs f.0 f.1 are (met_head own) (met_head (met_tail own))))

  -- ---- one case

  -- without a guard
  plain_fine : (pattern : Pattern) (b : With IsSound) (ss : Option (List Sort)) (bs : Option (List Value)) (v : Value)
      → fit pattern v ≡ bs → ((ts : List Sort) (vs : List Value) → ss ≡ Some ts → bs ≡ Some vs
      → Have p.types.ctors ts vs)
      → (scope : List Sort) (u : Sort) → arm_with (record { pattern = pattern; guard = None; body = Sorted b.0 }) scope
      ss ≡ Some u
      → AreMet p i (with_bound ss (λ bound. guard_sites None (scope ++ bound) ++ Placed b.0 (scope ++ bound)))
      → (frame : Frame) (env : List Value) → Have p.types.ctors scope env
      → IsFine (MayStop p D i) (IsTaken p u (IsMissed None pattern v))
      (attempt_with bs (record { pattern = pattern; guard = None; body = Meant b.0 }) frame env)
  plain_fine pattern b ss None v is fine scope u h met frame env have = fine_value
      (or_from (fits pattern v) false (ap is_some is) refl)
  plain_fine pattern b None (Some vs) v is fine scope u h met frame env have = cc
  plain_fine pattern b (Some ts) (Some vs) v is fine scope u h met frame env have =
      taken_fine p D i u (IsMissed None pattern v) true (Meant b.0 frame (env ++ vs))
      (b.1 (scope ++ ts) u h met frame (env ++ vs) (have_more p.types.ctors scope ts env vs have
      (fine ts vs refl refl))) (λ no. cc)

  -- with a guard
  guarded_fine : (pattern : Pattern) (g b : With IsSound) (ss : Option (List Sort)) (bs : Option (List Value))
      (v : Value)
      → ((ts : List Sort) (vs : List Value) → ss ≡ Some ts → bs ≡ Some vs → Have p.types.ctors ts vs)
      → (scope : List Sort) (u : Sort) → arm_with (record
      { pattern = pattern; guard = Some (Sorted g.0); body = Sorted b.0 }) scope ss ≡ Some u
      → AreMet p i (with_bound ss (λ bound. guard_sites (Some (g.0, Placed g.0)) (scope ++ bound) ++ Placed b.0
      (scope ++ bound)))
      → (frame : Frame) (env : List Value) → Have p.types.ctors scope env
      → IsFine (MayStop p D i) (IsTaken p u (IsMissed (Some g.0) pattern v))
      (attempt_with bs (record { pattern = pattern; guard = Some (Meant g.0); body = Meant b.0 }) frame env)
  guarded_fine pattern g b ss None v fine scope u h met frame env have = fine_value refl
  guarded_fine pattern g b None (Some vs) v fine scope u h met frame env have = cc
  guarded_fine pattern g b (Some ts) (Some vs) v fine scope u h met frame env have =
      let are = bool_then (Sorted g.0 (scope ++ ts)) (Sorted b.0 (scope ++ ts)) u h in
      let bound = have_more p.types.ctors scope ts env vs have (fine ts vs refl refl) in
      fine_then (condition p D i (Meant g.0 frame (env ++ vs))
      (g.1 (scope ++ ts) sort.Bool are.0 (met_left _ _ met) frame (env ++ vs) bound))
      (λ t _. taken_fine p D i u (IsMissed (Some g.0) pattern v) t (Meant b.0 frame (env ++ vs))
      (b.1 (scope ++ ts) u are.1 (met_right _ _ met) frame (env ++ vs) bound) (λ no. refl))

  -- a case by its parts
  by_parts : (pattern : Pattern) (guard : Option (With IsSound)) (b : With IsSound) (s u : Sort) (scope : List Sort)
      → let z =
      case_under IsSoundCase (record { pattern = pattern; guard = guard; body = b }) in
      sorts.arm_sort p.types p.functions (sorts.arm_step (map-Case Expr Case Sorting sorts.Arm Sorted SortedArm z)) s
      scope ≡ Some u
      → AreMet p i (case_sites p.types p.functions (map-Case Expr Case (Expr × Sites) (Case × CaseSites)
      (λ e. (e, Placed e)) (λ k. (k, PlacedArm k)) z) s scope)
      → (frame : Frame) (env : List Value) → Have p.types.ctors scope env → (v : Value) → Has p.types.ctors s v
      → IsFine (MayStop p D i) (IsTaken p u (IsMissed (roll-Case z).guard pattern v))
      (attempt (mean.arm_step (map-Case Expr Case Meaning mean.Arm Meant MeantArm z)) v frame env)
  by_parts pattern None b s u scope h met frame env have v has =
      plain_fine pattern b (bound_sorts p.types.ctors pattern s) (fit pattern v) v refl
      (λ ts vs e f. pattern_fine p.types.ctors pattern s ts e v has vs f) scope u h met frame env have
  by_parts pattern (Some g) b s u scope h met frame env have v has =
      guarded_fine pattern g b (bound_sorts p.types.ctors pattern s) (fit pattern v) v
      (λ ts vs e f. pattern_fine p.types.ctors pattern s ts e v has vs f) scope u h met frame env have

  at_case : (y : layer.Case-F (With IsSound) (With IsSoundCase)) → IsSoundCase (roll-Case (case_under IsSoundCase y))
  at_case y s u scope h met frame env have v has =
      let z = case_under IsSoundCase y in
      let sort_is = fold-roll-Case Sorting sorts.Arm (sort_step p.types p.functions) sorts.arm_step z in
      let sites_are = para-roll-Case Sites CaseSites (site_step p.types p.functions) (case_sites p.types p.functions)
      z in
      let meaning_is = fold-roll-Case Meaning mean.Arm (meaning_step calls) mean.arm_step z in
      subst (λ (a : mean.Arm). IsFine (MayStop p D i) (IsTaken p u (IsMissed (roll-Case z).guard y.pattern v))
      (attempt a v frame env)) (sym meaning_is)
      (by_parts y.pattern y.guard y.body s u scope (sym
      (ap (λ (a : sorts.Arm). sorts.arm_sort p.types p.functions a s scope) sort_is) ∙ h)
      (subst (λ (a : CaseSites). AreMet p i (a s scope)) sites_are met) frame env have v has)

  -- ---- the induction

  at_level : AreGood p D i calls → (y : layer.Expr-F (With IsSound) (With IsSoundCase)) → IsSound (roll-Expr (under y))
  at_level good y scope s h met frame env have =
      let z = under y in
      let sort_is = fold-roll-Expr Sorting sorts.Arm (sort_step p.types p.functions) sorts.arm_step z in
      let sites_are = para-roll-Expr Sites CaseSites (site_step p.types p.functions) (case_sites p.types p.functions)
      z in
      let meaning_is = fold-roll-Expr Meaning mean.Arm (meaning_step calls) mean.arm_step z in
      subst (λ (m : Meaning). IsSorted p D i s (m frame env)) (sym meaning_is)
      (level good y scope s (sym (ap (λ (a : Sorting). a scope) sort_is) ∙ h)
      (subst (λ (a : Sites). AreMet p i (a scope)) sites_are met) frame env have)

  -- the meaning of a sorted expression is fine, where its sites are met and calls are good
  pub expr_sound : AreGood p D i calls → (e : Expr) → IsSound e
  expr_sound good = each_expr IsSound IsSoundCase (at_level good) at_case
