-- Any relation between steps, visits and sorts holds of each expression, where it holds of each level of an expression
-- whose parts it holds of.
use Rattle.std.proofs.Common.{◌≡◌, List, [], ◌∷◌, map, Option, Some, None, refl, sym, subst}
use Rattle.pp_list.proofs.With.{With, elements}
use Rattle.pp_prog.proofs.Induction.{case_under, each_expr, under}
use Rattle.pp_prog.specs.ExprSorts.{case_sorts}
use Rattle.pp_prog.specs.declared.expr.Case.{Case}
use Rattle.pp_prog.specs.declared.expr.Expr.{Expr}
use Rattle.pp_prog.specs.declared.expr.Expr.TheFolds.{fold-roll-Case, fold-roll-Expr, map-Case, map-Expr}
use Rattle.pp_prog.specs.declared.expr.Expr.TheOpen as layer
use Rattle.pp_prog.specs.declared.expr.Expr.TheViews.{roll-Case, roll-Expr}
use Rattle.pp_prog.specs.declared.expr.Pattern.{Pattern}
use Rattle.pp_prog.specs.declared.id.CheckId.{CheckId}
use Rattle.pp_prog.specs.declared.program.Program.{Program}
use Rattle.pp_prog.specs.declared.types.TypeTable.{TypeTable}
use Rattle.pp_prog.specs.ExprSorts as sorts
use Rattle.pp_prog.specs.ExprSorts.{Sorting, sort_of, sort_step}
use Rattle.pp_estimate.specs.Visits as visits
use Rattle.pp_estimate.specs.Visits.{Calls, Visiting, visit_case, visit_of, visit_step}
use Rattle.pp_steps.specs.Compile.{Arm, Compiling, Site, arm, arm_step, compile, compile_step}
use Rattle.pp_steps_gates.proofs.Aligned.{Aligned}

-- C holds of a guard, its visit and its sort, if there is one
abbrev pub GuardCovers : (Compiling → Visiting → Sorting → Type 0) → Option Compiling → Option Visiting
    → Option Sorting → Type 0
GuardCovers C None None None = Unit {0}
GuardCovers C (Some m) (Some v) (Some t) = C m v t
GuardCovers C m v t = ⊥

-- a case, its visit and its sort are those of one pattern, with a guard and a body that C holds of
pub record ArmCovers (types : TypeTable) (C : Compiling → Visiting → Sorting → Type 0) (a : Arm) (w : visits.Arm)
    (t : sorts.Arm) : Type 0 where
  pub guard : Option Visiting
  pub body : Visiting
  pub visit_is : w ≡ visits.arm_step types (record { pattern = a.pattern; guard = guard; body = body })
  pub pattern_is : t.pattern ≡ a.pattern
  pub guard_covers : GuardCovers C a.guard guard t.guard
  pub body_covers : C a.body body t.body

module _ (p : Program) (asked : Option CheckId) (site : Site) (calls : Calls)
    (C : Compiling → Visiting → Sorting → Type 0) where
  abbrev compiled : Expr → Compiling
  compiled = compile asked site

  abbrev visited : Expr → Visiting
  visited = visit_of p.types calls

  abbrev sorted : Expr → Sorting
  sorted = sort_of p.types p.functions

  abbrev compiled_arm : Case → Arm
  compiled_arm = arm asked site

  abbrev visited_arm : Case → visits.Arm
  visited_arm = visit_case p.types calls

  abbrev sorted_arm : Case → sorts.Arm
  sorted_arm = case_sorts p.types p.functions

  abbrev pub ExprCovers : Expr → Type 0
  ExprCovers e = C (compiled e) (visited e) (sorted e)

  abbrev pub CaseCovers : Case → Type 0
  CaseCovers k = ArmCovers p.types C (compiled_arm k) (visited_arm k) (sorted_arm k)

  pub all_cover : (ys : List (With ExprCovers))
      → Aligned C (map compiled (elements ys)) (map visited (elements ys)) (map sorted (elements ys))
  all_cover [] = tt
  all_cover (y ∷ ys) = (y.1, all_cover ys)

  pub arms_cover : (ys : List (With CaseCovers))
      → Aligned (ArmCovers p.types C) (map compiled_arm (elements ys)) (map visited_arm (elements ys))
      (map sorted_arm (elements ys))
  arms_cover [] = tt
  arms_cover (y ∷ ys) = (y.1, arms_cover ys)

  abbrev compiled_level : layer.Expr-F Expr Case → Compiling
  compiled_level z = compile_step asked site (map-Expr Expr Case Compiling Arm compiled compiled_arm z)

  abbrev visited_level : layer.Expr-F Expr Case → Visiting
  visited_level z = visit_step p.types calls (map-Expr Expr Case Visiting visits.Arm visited visited_arm z)

  abbrev sorted_level : layer.Expr-F Expr Case → Sorting
  sorted_level z = sort_step p.types p.functions (map-Expr Expr Case Sorting sorts.Arm sorted sorted_arm z)

  -- one level of an expression, where C holds of its parts
  abbrev pub LevelCovers : layer.Expr-F (With ExprCovers) (With CaseCovers) → Type 0
  LevelCovers y = C (compiled_level (under y)) (visited_level (under y)) (sorted_level (under y))

  module _ (level : (y : layer.Expr-F (With ExprCovers) (With CaseCovers)) → LevelCovers y) where
    at_level : (y : layer.Expr-F (With ExprCovers) (With CaseCovers)) → ExprCovers (roll-Expr (under y))
    at_level y =
        let z = under y in
        subst (λ (m : Compiling). C m (visited (roll-Expr z)) (sorted (roll-Expr z)))
        (sym (fold-roll-Expr Compiling Arm (compile_step asked site) arm_step z))
        (subst (λ (v : Visiting). C (compiled_level z) v (sorted (roll-Expr z)))
        (sym (fold-roll-Expr Visiting visits.Arm (visit_step p.types calls) (visits.arm_step p.types) z))
        (subst (λ (t : Sorting). C (compiled_level z) (visited_level z) t)
        (sym (fold-roll-Expr Sorting sorts.Arm (sort_step p.types p.functions) sorts.arm_step z)) (level y)))

    abbrev compiled_parts : layer.Case-F Expr Case → Arm
    compiled_parts z = arm_step (map-Case Expr Case Compiling Arm compiled compiled_arm z)

    abbrev visited_parts : layer.Case-F Expr Case → visits.Arm
    visited_parts z = visits.arm_step p.types (map-Case Expr Case Visiting visits.Arm visited visited_arm z)

    abbrev sorted_parts : layer.Case-F Expr Case → sorts.Arm
    sorted_parts z = sorts.arm_step (map-Case Expr Case Sorting sorts.Arm sorted sorted_arm z)

    at_parts : (q : Pattern) (o : Option (With ExprCovers)) (b : With ExprCovers) → let y : layer.Case-F
        (With ExprCovers) (With CaseCovers) =
        record { pattern = q; guard = o; body = b } in
        let z = case_under CaseCovers y in
        ArmCovers p.types C (compiled_parts z) (visited_parts z) (sorted_parts z)
    at_parts q None b = record {
      guard = None;
      body = visited b.0;
      visit_is = refl;
      pattern_is = refl;
      guard_covers = tt;
      body_covers = b.1;
    }
    at_parts q (Some e) b = record {
      guard = Some (visited e.0);
      body = visited b.0;
      visit_is = refl;
      pattern_is = refl;
      guard_covers = e.1;
      body_covers = b.1;
    }

    at_case : (y : layer.Case-F (With ExprCovers) (With CaseCovers)) → CaseCovers (roll-Case (case_under CaseCovers y))
    at_case y =
        let z = case_under CaseCovers y in
        subst (λ (a : Arm). ArmCovers p.types C a (visited_arm (roll-Case z)) (sorted_arm (roll-Case z)))
        (sym (fold-roll-Case Compiling Arm (compile_step asked site) arm_step z))
        (subst (λ (w : visits.Arm). ArmCovers p.types C (compiled_parts z) w (sorted_arm (roll-Case z)))
        (sym (fold-roll-Case Visiting visits.Arm (visit_step p.types calls) (visits.arm_step p.types) z))
        (subst (λ (t : sorts.Arm). ArmCovers p.types C (compiled_parts z) (visited_parts z) t)
        (sym (fold-roll-Case Sorting sorts.Arm (sort_step p.types p.functions) sorts.arm_step z))
        (at_parts y.pattern y.guard y.body)))

    pub expr_by_levels : (e : Expr) → C (compiled e) (visited e) (sorted e)
    expr_by_levels = each_expr ExprCovers CaseCovers at_level at_case

    pub exprs_by_levels : (es : List Expr)
        → Aligned C (map compiled es) (map visited es) (map sorted es)
    exprs_by_levels [] = tt
    exprs_by_levels (e ∷ es) = (expr_by_levels e, exprs_by_levels es)
