-- An expression in which the check is carried by plain descents alone doesn't fail it.
use Rattle.std.proofs.Common.{◌≡◌, ◌⊎◌, ℕ, ◌≤◌, Bool, true, false, List, ◌++◌, Option, Some, None, refl, sym, ap, ◌∙◌}
use Rattle.std.proofs.Common.{subst, arith, inl, inr, ⊎_elim}
use Rattle.std.specs.Option.{option_map}
use Rattle.pp_list.proofs.With.{With}
use Rattle.pp_prog.proofs.Induction.{case_under, each_expr, under}
use Rattle.pp_prog.specs.declared.expr.Case.{Case}
use Rattle.pp_prog.specs.declared.expr.Expr.{Expr}
use Rattle.pp_prog.specs.declared.expr.Expr.TheFolds.{fold-roll-Case, fold-roll-Expr, map-Case, para-roll-Case}
use Rattle.pp_prog.specs.declared.expr.Expr.TheFolds.{para-roll-Expr}
use Rattle.pp_prog.specs.declared.expr.Expr.TheOpen as layer
use Rattle.pp_prog.specs.declared.expr.Expr.TheViews.{roll-Case, roll-Expr}
use Rattle.pp_prog.specs.declared.expr.Pattern.{Pattern}
use Rattle.pp_prog.specs.declared.id.CheckId.{CheckId}
use Rattle.pp_prog.specs.declared.program.Program.{Program}
use Rattle.pp_prog.specs.declared.sort.Sort.{Sort}
use Rattle.pp_prog.specs.declared.sort.Sort.TheVariants as sort
use Rattle.pp_prog.specs.declared.value.Value.{Value}
use Rattle.pp_prog.specs.ExprSorts.{Sorting, arm_with, sort_step}
use Rattle.pp_prog.specs.ExprSorts as sorts
use Rattle.pp_prog.specs.Fits.{fit}
use Rattle.pp_prog.specs.Listing.{CaseSites, Sites, case_sites, guard_sites, site_step, with_bound}
use Rattle.pp_prog.specs.PatternSorts.{bound_sorts}
use Rattle.pp_prog.specs.Values.{IsBelow}
use Rattle.pp_eval.specs.Meaning.{CallMeaning, Frame, Meaning, attempt, attempt_with, meaning_step, taken}
use Rattle.pp_eval.specs.Meaning as mean
use Rattle.pp_eval.specs.Part.{Part}
use Rattle.pp_prog.proofs.ValueSorts.{Has, Have, have_more}
use Rattle.pp_sound.proofs.Patterns.{pattern_fine}
use Rattle.pp_sound.proofs.Sites.{AreMet, met_left, met_right}
use Rattle.pp_prog.proofs.PartSorts.{bool_then}
use Rattle.pp_checks.specs.Marks.{CaseDescents, Seen, case_step, in_guard, marks_of, seen_step}
use Rattle.pp_plain_laws.proofs.Counts.{count_append, places_append}
use Rattle.pp_plain_laws.proofs.Patterns.{pattern_marked}
use Rattle.pp_plain_laws.proofs.Scope.{IsClean, clean_then, clean_value, more_in_scope, truth_clean}
use Rattle.pp_plain_laws.proofs.Setting.{Setting, below_trans, Sorted, Placed, Meant, Looked, SortedArm, PlacedArm}
use Rattle.pp_plain_laws.proofs.Setting.{MeantArm, LookedArm, found_in, carried_by, InScope, IsLive, IsExpr, IsCase}
use Rattle.pp_plain_laws.proofs.Levels.{level_few, level_variable, looked}
use Rattle.pp_plain_laws.proofs.LevelsClean.{level_clean}

module _ (x : Setting) where
  abbrev p : Program
  p = x.p

  abbrev i : ℕ
  i = x.i

  abbrev c : CheckId
  c = x.c

  abbrev calls0 : CallMeaning
  calls0 = x.calls0

  abbrev old : Frame
  old = x.old

  abbrev pp : ℕ
  pp = x.pp

  abbrev v0 : Value
  v0 = x.v0

  -- ---- one case

  abbrev guard_expr : Option (With (IsExpr x)) → Option Expr
  guard_expr None = None
  guard_expr (Some g) = Some g.0

  few_parts : (pattern : Pattern) (o : Option (With (IsExpr x))) (b : With (IsExpr x)) (ss : Option (List Sort))
      (u : Sort)
      (scope : List Sort)
      → arm_with (record { pattern = pattern; guard = option_map (Sorted x) (guard_expr o); body = (Sorted x) b.0 })
      scope ss ≡ Some u
      → (marks : List Bool)
      → (found_in x) (in_guard (option_map (Looked x) (guard_expr o)) marks ++ ((Looked x) b.0).1 marks)
      ≤ (carried_by x) (with_bound ss (λ bound. guard_sites (option_map (λ e. (e, (Placed x) e)) (guard_expr o))
      (scope ++ bound) ++ (Placed x) b.0 (scope ++ bound)))
  few_parts pattern o b None u scope h marks = cc
  few_parts pattern None b (Some ts) u scope h marks = b.1.few (scope ++ ts) u h marks
  few_parts pattern (Some g) b (Some ts) u scope h marks =
      let are = bool_then ((Sorted x) g.0 (scope ++ ts)) ((Sorted x) b.0 (scope ++ ts)) u h in
      omega (
        arith,
        g.1.few (scope ++ ts) sort.Bool are.0 marks,
        b.1.few (scope ++ ts) u are.1 marks,
        count_append c.0 (((Looked x) g.0).1 marks) (((Looked x) b.0).1 marks),
        places_append c.0 ((Placed x) g.0 (scope ++ ts)) ((Placed x) b.0 (scope ++ ts)),
      )

  taken_clean : (t : Bool) (body : Part Value) → IsClean c body → IsClean c (taken t body)
  taken_clean true body h = clean_then _ h (λ v at. clean_value)
  taken_clean false body h = clean_value

  -- guard and body, where the pattern fits
  fitted : (pattern : Pattern) (o : Option (With (IsExpr x))) (b : With (IsExpr x)) (ts : List Sort) (u : Sort)
      (scope : List Sort)
      → arm_with (record { pattern = pattern; guard = option_map (Sorted x) (guard_expr o); body = (Sorted x) b.0 })
      scope (Some ts) ≡ Some u
      → AreMet p i (guard_sites (option_map (λ e. (e, (Placed x) e)) (guard_expr o)) (scope ++ ts) ++ (Placed x) b.0
      (scope ++ ts))
      → (env vs : List Value) → Have p.types.ctors (scope ++ ts) (env ++ vs) → (marks : List Bool)
      → (InScope x) marks (env ++ vs)
      → (found_in x) (in_guard (option_map (Looked x) (guard_expr o)) marks ++ ((Looked x) b.0).1 marks)
      ≡ (carried_by x) (guard_sites (option_map (λ e. (e, (Placed x) e)) (guard_expr o)) (scope ++ ts) ++ (Placed x)
      b.0 (scope ++ ts))
      → IsClean c (attempt_with (Some vs) (record {
        pattern = pattern;
        guard = option_map (Meant x) (guard_expr o);
        body = (Meant x) b.0;
      }) old env)
  fitted pattern None b ts u scope h met env vs have marks inside tight =
      taken_clean true _ (b.1.clean (scope ++ ts) u h met (env ++ vs) have marks inside tight)
  fitted pattern (Some g) b ts u scope h met env vs have marks inside tight =
      let are = bool_then ((Sorted x) g.0 (scope ++ ts)) ((Sorted x) b.0 (scope ++ ts)) u h in
      let fg = g.1.few (scope ++ ts) sort.Bool are.0 marks in
      let fb = b.1.few (scope ++ ts) u are.1 marks in
      let d = count_append c.0 (((Looked x) g.0).1 marks) (((Looked x) b.0).1 marks) in
      let f = places_append c.0 ((Placed x) g.0 (scope ++ ts)) ((Placed x) b.0 (scope ++ ts)) in
      clean_then _
      (clean_then _ (g.1.clean (scope ++ ts) sort.Bool are.0 (met_left _ _ met) (env ++ vs) have marks inside
      (omega (arith, fg, fb, d, f, tight)))
      (λ v at. truth_clean c v))
      (λ t at. taken_clean t _ (b.1.clean (scope ++ ts) u are.1 (met_right _ _ met) (env ++ vs) have marks inside
      (omega (arith, fg, fb, d, f, tight))))

  clean_parts : (pattern : Pattern) (o : Option (With (IsExpr x))) (b : With (IsExpr x)) (s u : Sort)
      (scope : List Sort)
      (ss : Option (List Sort)) → bound_sorts p.types.ctors pattern s ≡ ss
      → arm_with (record { pattern = pattern; guard = option_map (Sorted x) (guard_expr o); body = (Sorted x) b.0 })
      scope ss ≡ Some u
      → AreMet p i (with_bound ss (λ bound. guard_sites (option_map (λ e. (e, (Placed x) e)) (guard_expr o))
      (scope ++ bound) ++ (Placed x) b.0 (scope ++ bound)))
      → (env : List Value) → Have p.types.ctors scope env → (live : Bool) (marks : List Bool) → (InScope x) marks env
      → (found_in x) (in_guard (option_map (Looked x) (guard_expr o)) (marks ++ marks_of pattern false live) ++
      ((Looked x) b.0).1 (marks ++ marks_of pattern false live))
      ≡ (carried_by x) (with_bound ss (λ bound. guard_sites (option_map (λ e. (e, (Placed x) e)) (guard_expr o))
      (scope ++ bound) ++ (Placed x) b.0 (scope ++ bound)))
      → (v : Value) → Has p.types.ctors s v → (IsLive x) live v → (bs : Option (List Value)) → fit pattern v ≡ bs
      → IsClean c (attempt_with bs (record {
        pattern = pattern;
        guard = option_map (Meant x) (guard_expr o);
        body =
            (Meant x) b.0;
      }) old env)
  clean_parts pattern o b s u scope None is h met env have live marks inside tight v has lives bs fits = cc
  clean_parts pattern o b s u scope (Some ts) is h met env have live marks inside tight v has lives None fits =
      clean_value
  clean_parts pattern o b s u scope (Some ts) is h met env have live marks inside tight v has lives (Some vs) fits =
      let m = pattern_marked pattern v vs fits false live in
      fitted pattern o b ts u scope h met env vs
      (have_more p.types.ctors scope ts env vs have (pattern_fine p.types.ctors pattern s ts is v has vs fits))
      (marks ++ marks_of pattern false live)
      (more_in_scope pp v0 marks (marks_of pattern false live) env vs inside m.size (λ j w k at. ⊎_elim
      (λ a. (let no : false ≡ true = a.0 in cc))
      (λ a. below_either w v (lives a.0) a.1) (m.each j w k at)))
      tight
    where
      below_either : (w v : Value) → (v ≡ v0) ⊎ IsBelow v v0 → IsBelow w v → IsBelow w v0
      below_either w v (inl e) b = subst (IsBelow w) e b
      below_either w v (inr e) b = below_trans w v v0 b e

  -- a case by its parts
  record IsCaseLevel (z : layer.Case-F Expr Case) : Type 0 where
    few : (s u : Sort) (scope : List Sort)
        → sorts.arm_sort p.types p.functions (sorts.arm_step (map-Case Expr Case Sorting sorts.Arm (Sorted x)
        (SortedArm x) z)) s scope ≡ Some u
        → (live : Bool) (marks : List Bool)
        → (found_in x) (case_step (map-Case Expr Case Seen CaseDescents (Looked x) (LookedArm x) z) live marks)
        ≤ (carried_by x) (case_sites p.types p.functions (map-Case Expr Case (Expr × Sites) (Case × CaseSites)
        (λ e. (e, (Placed x) e)) (λ k. (k, (PlacedArm x) k)) z) s scope)
    clean : (s u : Sort) (scope : List Sort)
        → sorts.arm_sort p.types p.functions (sorts.arm_step (map-Case Expr Case Sorting sorts.Arm (Sorted x)
        (SortedArm x) z)) s scope ≡ Some u
        → AreMet p i (case_sites p.types p.functions (map-Case Expr Case (Expr × Sites) (Case × CaseSites)
        (λ e. (e, (Placed x) e)) (λ k. (k, (PlacedArm x) k)) z) s scope)
        → (env : List Value) → Have p.types.ctors scope env → (live : Bool) (marks : List Bool) → (InScope x) marks env
        → (found_in x) (case_step (map-Case Expr Case Seen CaseDescents (Looked x) (LookedArm x) z) live marks)
        ≡ (carried_by x) (case_sites p.types p.functions (map-Case Expr Case (Expr × Sites) (Case × CaseSites)
        (λ e. (e, (Placed x) e)) (λ k. (k, (PlacedArm x) k)) z) s scope)
        → (v : Value) → Has p.types.ctors s v → (IsLive x) live v
        → IsClean c (attempt (mean.arm_step (map-Case Expr Case Meaning mean.Arm (Meant x) (MeantArm x) z)) v old env)

  case_level : (pattern : Pattern) (o : Option (With (IsExpr x))) (b : With (IsExpr x))
      → IsCaseLevel (case_under (IsCase x) (record { pattern = pattern; guard = o; body = b }))
  case_level pattern None b = record {
    few =
        λ s u scope h live marks. few_parts pattern None b (bound_sorts p.types.ctors pattern s) u scope h
        (marks ++ marks_of pattern false live);
    clean = λ s u scope h met env have live marks inside tight v has lives.
        clean_parts pattern None b s u scope (bound_sorts p.types.ctors pattern s) refl h met env have live marks
        inside tight v has lives (fit pattern v) refl;
  }
  case_level pattern (Some g) b = record {
    few =
        λ s u scope h live marks. few_parts pattern (Some g) b (bound_sorts p.types.ctors pattern s) u scope h
        (marks ++ marks_of pattern false live);
    clean = λ s u scope h met env have live marks inside tight v has lives.
        clean_parts pattern (Some g) b s u scope (bound_sorts p.types.ctors pattern s) refl h met env have live marks
        inside tight v has lives (fit pattern v) refl;
  }

  at_case : (y : layer.Case-F (With (IsExpr x)) (With (IsCase x))) → (IsCase x) (roll-Case (case_under (IsCase x) y))
  at_case y =
      let z = case_under (IsCase x) y in
      let l = case_level y.pattern y.guard y.body in
      let sort_is = fold-roll-Case Sorting sorts.Arm (sort_step p.types p.functions) sorts.arm_step z in
      let sites_are = para-roll-Case Sites CaseSites (site_step p.types p.functions) (case_sites p.types p.functions)
      z in
      let looked_is = fold-roll-Case Seen CaseDescents (seen_step p.functions pp) case_step z in
      let meaning_is = fold-roll-Case Meaning mean.Arm (meaning_step calls0) mean.arm_step z in
      record {
        few = λ s u scope h live marks.
            subst (λ (a : CaseDescents). (found_in x) (a live marks) ≤ (carried_by x)
            ((PlacedArm x) (roll-Case z) s scope)) (sym looked_is)
            (subst (λ (a : CaseSites). (found_in x) (case_step (map-Case Expr Case Seen CaseDescents (Looked x)
            (LookedArm x) z) live marks) ≤ (carried_by x) (a s scope)) (sym sites_are)
            (l.few s u scope (sym (ap (λ (a : sorts.Arm). sorts.arm_sort p.types p.functions a s scope) sort_is) ∙ h)
            live marks));
        clean = λ s u scope h met env have live marks inside tight v has lives.
            subst (λ (a : mean.Arm). IsClean c (attempt a v old env)) (sym meaning_is)
            (l.clean s u scope (sym (ap (λ (a : sorts.Arm). sorts.arm_sort p.types p.functions a s scope) sort_is) ∙ h)
            (subst (λ (a : CaseSites). AreMet p i (a s scope)) sites_are met) env have live marks inside
            (sym (ap (λ (a : CaseDescents). (found_in x) (a live marks)) looked_is) ∙ tight ∙ ap
            (λ (a : CaseSites). (carried_by x) (a s scope)) sites_are) v has lives);
      }

  at_level : (y : layer.Expr-F (With (IsExpr x)) (With (IsCase x))) → (IsExpr x) (roll-Expr (under y))
  at_level y =
      let z = under y in
      let sort_is = fold-roll-Expr Sorting sorts.Arm (sort_step p.types p.functions) sorts.arm_step z in
      let sites_are = para-roll-Expr Sites CaseSites (site_step p.types p.functions) (case_sites p.types p.functions)
      z in
      let looked_is = fold-roll-Expr Seen CaseDescents (seen_step p.functions pp) case_step z in
      let meaning_is = fold-roll-Expr Meaning mean.Arm (meaning_step calls0) mean.arm_step z in
      record {
        variable =
            λ k is env. ap (λ (m : Meaning). m old env) meaning_is ∙ (level_variable x) y k
            (sym (ap (λ (a : Seen). a.0) looked_is) ∙ is) env;
        few = λ scope s h marks.
            subst (λ (a : Seen). (found_in x) (a.1 marks) ≤ (carried_by x) ((Placed x) (roll-Expr z) scope))
            (sym looked_is)
            (subst (λ (a : Sites). (found_in x) (((looked x) y).1 marks) ≤ (carried_by x) (a scope)) (sym sites_are)
            ((level_few x) y scope s (sym (ap (λ (a : Sorting). a scope) sort_is) ∙ h) marks));
        clean = λ scope s h met env have marks inside tight.
            subst (λ (m : Meaning). IsClean c (m old env)) (sym meaning_is)
            ((level_clean x) y scope s (sym (ap (λ (a : Sorting). a scope) sort_is) ∙ h)
            (subst (λ (a : Sites). AreMet p i (a scope)) sites_are met) env have marks inside
            (sym (ap (λ (a : Seen). (found_in x) (a.1 marks)) looked_is) ∙ tight ∙ ap
            (λ (a : Sites). (carried_by x) (a scope)) sites_are));
      }

  -- an expression in which the check is carried by plain descents alone doesn't fail it
  pub expr_clean : (e : Expr) → (IsExpr x) e
  expr_clean = each_expr (IsExpr x) (IsCase x) at_level at_case
