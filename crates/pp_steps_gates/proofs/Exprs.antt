-- Expressions: their steps take at most twice what their visits cost, where those of calls do.
use Rattle.std.proofs.Common.{◌≡◌, ℕ, ◌≤◌, List, [], map, Option, Some, sym, ◌∙◌, subst, arith}
use Rattle.std.proofs.lemmas.Option.{same_Some}
use Rattle.pp_list.proofs.With.{With, elements}
use Rattle.pp_prog.specs.ExprSorts.{case_sorts}
use Rattle.pp_prog.specs.declared.expr.Expr.{Expr}
use Rattle.pp_prog.specs.declared.expr.Expr.TheOpen as layer
use Rattle.pp_prog.specs.declared.id.CheckId.{CheckId}
use Rattle.pp_prog.specs.declared.program.Program.{Program}
use Rattle.pp_prog.specs.declared.sort.Sort.TheVariants as sort
use Rattle.pp_prog.specs.ExprSorts.{Sorting, sort_of}
use Rattle.pp_prog.specs.Sorts.{is_int}
use Rattle.pp_estimate.specs.declared.shape.Shape.{Shape}
use Rattle.pp_estimate.specs.Cut.{top}
use Rattle.pp_estimate.specs.Visits.{Calls, Visiting, node, shape, shape_at, visit, visit_case, visit_of}
use Rattle.pp_estimate_laws.proofs.Numbers.{le_same}
use Rattle.pp_prog.proofs.PartSorts.{sort_there}
use Rattle.pp_steps.specs.declared.step.Step.TheVariants as steps
use Rattle.pp_steps.specs.Compile.{Compiling, Site, arm, compile, one}
use Rattle.pp_steps.specs.Gates.{Heights}
use Rattle.pp_steps.specs.Piece.{plain}
use Rattle.pp_steps.specs.Sorted.{Sorts}
use Rattle.pp_steps_gates.proofs.Cases.{match_covers}
use Rattle.pp_steps_gates.proofs.Forms.{assert_covers, if_covers, unary_covers, val_covers}
use Rattle.pp_steps_gates.proofs.Lists.{Answers, call_covers, construct_covers, field_covers}
use Rattle.pp_steps_gates.proofs.Operators.{binary_covers}
use Rattle.pp_steps_gates.proofs.Pieces.{Has, one_few, plain_few}
use Rattle.pp_steps_gates.proofs.Scopes.{Covers, IsOf, are_at, covered}
use Rattle.pp_steps_gates.proofs.ExprLevels.{CaseCovers, ExprCovers, LevelCovers, all_cover, arms_cover}
use Rattle.pp_steps_gates.proofs.ExprLevels.{expr_by_levels, exprs_by_levels}
use Rattle.pp_steps_gates.proofs.Aligned.{Aligned}

module _ (p : Program) (σ : Sorts) (η : Heights) (low : (i : ℕ) → η i ≤ top)
    (flat : (i : ℕ) → σ i ≡ sort.Bool → η i ≡ 0) where
  module _ (old : List Shape) (asked : Option CheckId) (site : Site) (calls : Calls)
      (its : Answers p.types σ η old p.functions site calls) where
    abbrev C : Compiling → Visiting → Sorting → Type 0
    C = Covers p.types σ η old

    abbrev compiled : Expr → Compiling
    compiled = compile asked site

    abbrev visited : Expr → Visiting
    visited = visit_of p.types calls

    abbrev sorted : Expr → Sorting
    sorted = sort_of p.types p.functions

    level : (y : layer.Expr-F (With (ExprCovers p asked site calls C)) (With (CaseCovers p asked site calls C)))
        → LevelCovers p asked site calls C y
    level (layer.Int n) k env reach shapes scope s are r h m =
        let same = sort_there (is_int n) sort.Int s h in
        covered p.types σ η k (one (steps.Int n) k reach) s (visit (shape sort.Int 0) (node 0)) 0 same.1
        (one_few p.types σ η (Has p.types σ η s 0) (steps.Int n) k reach
        (record { sort = m.0.0.0 ∙ same.1; height = subst (λ z. z ≤ 0) (sym m.0.1) (le_same 0) }) r) (omega arith)
    level (layer.Bool b) k env reach shapes scope s are r h m =
        let same = same_Some sort.Bool s h in
        covered p.types σ η k (one (steps.Bool b) k reach) s (visit (shape sort.Bool 0) (node 0)) 0 same
        (one_few p.types σ η (Has p.types σ η s 0) (steps.Bool b) k reach
        (record { sort = m.0.0 ∙ same; height = subst (λ z. z ≤ 0) (sym m.0.1) (le_same 0) }) r) (omega arith)
    level (layer.Var i) k env reach shapes scope s are r h m =
        let x = are_at (IsOf p.types σ η) env shapes scope i s are h in
        covered p.types σ η k (plain [] _ reach) s (visit (shape_at shapes i) (node 0)) 0 x.shape
        (plain_few p.types σ η (Has p.types σ η s (shape_at shapes i).height) k _ reach x.has r) (omega arith)
    level (layer.Unary op a) k env reach shapes scope s are r h m =
        unary_covers p.types σ η old op (compiled a.0) (visited a.0) (sorted a.0) a.1
        k env reach shapes scope s are r h m
    level (layer.Binary op a b check) k env reach shapes scope s are r h m =
        binary_covers p.types σ η old flat asked op check (compiled a.0) (compiled b.0) (visited a.0) (visited b.0)
        (sorted a.0) (sorted b.0) a.1 b.1 k env reach shapes scope s are r h m
    level (layer.Construct c args) k env reach shapes scope s are r h m =
        construct_covers p.types σ η old low c (map compiled (elements args)) (map visited (elements args))
        (map sorted (elements args)) (all_cover p asked site calls C args) k env reach shapes scope s are r h m
    level (layer.Field x i) k env reach shapes scope s are r h m =
        field_covers p.types σ η old p.functions i (compiled x.0) (visited x.0) (sorted x.0) x.1
        k env reach shapes scope s are r h m
    level (layer.If t a b) k env reach shapes scope s are r h m =
        if_covers p.types σ η old (compiled t.0) (compiled a.0) (compiled b.0) (visited t.0) (visited a.0) (visited b.0)
        (sorted t.0) (sorted a.0) (sorted b.0) t.1 a.1 b.1 k env reach shapes scope s are r h m
    level (layer.Match x ys check) k env reach shapes scope s are r h m =
        match_covers p σ η old asked (compiled x.0) (visited x.0) (sorted x.0) x.1 (map (arm asked site) (elements ys))
        (map (visit_case p.types calls) (elements ys)) (map (case_sorts p.types p.functions) (elements ys))
        (arms_cover p asked site calls C ys) check
        k env reach shapes scope s are r h m
    level (layer.Val a b) k env reach shapes scope s are r h m =
        val_covers p.types σ η old (compiled a.0) (compiled b.0) (visited a.0) (visited b.0) (sorted a.0) (sorted b.0)
        a.1 b.1 k env reach shapes scope s are r h m
    level (layer.Assert check t b) k env reach shapes scope s are r h m =
        assert_covers p.types σ η old asked (Some check) (compiled t.0) (compiled b.0) (visited t.0) (visited b.0)
        (sorted t.0) (sorted b.0) t.1 b.1 k env reach shapes scope s are r h m
    level (layer.Call g args pre down) k env reach shapes scope s are r h m =
        call_covers p.types σ η old p.functions site calls its g pre down (map compiled (elements args))
        (map visited (elements args)) (map sorted (elements args)) (all_cover p asked site calls C args) k env reach
        shapes scope s are r h m

    pub expr_covers : (e : Expr) → C (compiled e) (visited e) (sorted e)
    expr_covers = expr_by_levels p asked site calls C level

    pub list_covers : (es : List Expr) → Aligned C (map compiled es) (map visited es) (map sorted es)
    list_covers = exprs_by_levels p asked site calls C level
