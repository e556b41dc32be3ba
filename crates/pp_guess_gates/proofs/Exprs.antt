-- Expressions: their steps weigh at most what their visits are worth, where those of calls do.
use Rattle.std.proofs.Common.{ℕ, List, [], map, Option, Some, ◌∙◌, arith}
use Rattle.std.proofs.lemmas.Option.{same_Some}
use Rattle.pp_list.proofs.With.{With, elements}
use Rattle.pp_prog.specs.ExprSorts.{case_sorts}
use Rattle.pp_prog.specs.declared.expr.Expr.{Expr}
use Rattle.pp_prog.specs.declared.expr.Expr.TheOpen as layer
use Rattle.pp_prog.specs.declared.id.CheckId.{CheckId}
use Rattle.pp_prog.specs.declared.program.Program.{Program}
use Rattle.pp_prog.specs.declared.sort.Sort.TheVariants as sort
use Rattle.pp_prog.specs.ExprSorts.{Sorting, sort_of}
use Rattle.pp_prog.specs.Sorts.{is_int}
use Rattle.pp_estimate.specs.declared.shape.Shape.{Shape}
use Rattle.pp_estimate.specs.Visits.{Calls, Visiting, node, shape, shape_at, visit, visit_case, visit_of}
use Rattle.pp_prog.proofs.PartSorts.{sort_there}
use Rattle.pp_steps.specs.declared.step.OpenCall.{OpenCall}
use Rattle.pp_steps.specs.declared.step.Step.TheVariants as steps
use Rattle.pp_steps.specs.Compile.{Compiling, Site, arm, compile, one}
use Rattle.pp_steps.specs.Piece.{plain}
use Rattle.pp_steps.specs.Sorted.{Sorts}
use Rattle.pp_steps_gates.proofs.ExprLevels.{CaseCovers, ExprCovers, LevelCovers, all_cover, arms_cover}
use Rattle.pp_steps_gates.proofs.ExprLevels.{expr_by_levels, exprs_by_levels}
use Rattle.pp_steps_gates.proofs.Aligned.{Aligned}
use Rattle.pp_steps_gates.proofs.Scopes.{are_at}
use Rattle.pp_guess_gates.proofs.Cases.{match_covers}
use Rattle.pp_guess_gates.proofs.Forms.{assert_covers, if_covers, unary_covers, val_covers}
use Rattle.pp_guess_gates.proofs.Lists.{Answers, call_covers, construct_covers, field_covers}
use Rattle.pp_guess_gates.proofs.Operators.{binary_covers}
use Rattle.pp_guess_gates.proofs.Pieces.{Is, one_light, plain_light}
use Rattle.pp_guess_gates.proofs.Prices.{Prices}
use Rattle.pp_guess_gates.proofs.Scopes.{Covers, IsOf, covered}

module _ (p : Program) (σ : Sorts) (ψ : Prices) (left : OpenCall → ℕ) where
  module _ (old : List Shape) (asked : Option CheckId) (site : Site) (calls : Calls)
      (its : Answers p.types σ ψ left old p.functions site calls) where
    abbrev C : Compiling → Visiting → Sorting → Type 0
    C = Covers p.types σ ψ left old

    abbrev compiled : Expr → Compiling
    compiled = compile asked site

    abbrev visited : Expr → Visiting
    visited = visit_of p.types calls

    abbrev sorted : Expr → Sorting
    sorted = sort_of p.types p.functions

    level : (y : layer.Expr-F (With (ExprCovers p asked site calls C)) (With (CaseCovers p asked site calls C)))
        → LevelCovers p asked site calls C y
    level (layer.Int n) k env reach shapes scope s are r h m =
        let same = sort_there (is_int n) sort.Int s h in
        covered p.types σ ψ left k (one (steps.Int n) k reach) s (visit (shape sort.Int 0) (node 0)) 1 same.1
        (one_light p.types σ ψ left (Is σ s) (steps.Int n) k reach (m.0.0 ∙ same.1) r) (omega arith)
    level (layer.Bool b) k env reach shapes scope s are r h m =
        let same = same_Some sort.Bool s h in
        covered p.types σ ψ left k (one (steps.Bool b) k reach) s (visit (shape sort.Bool 0) (node 0)) 1 same
        (one_light p.types σ ψ left (Is σ s) (steps.Bool b) k reach (m.0 ∙ same) r) (omega arith)
    level (layer.Var i) k env reach shapes scope s are r h m =
        let x = are_at (IsOf σ) env shapes scope i s are h in
        covered p.types σ ψ left k (plain [] _ reach) s (visit (shape_at shapes i) (node 0)) 0 x.shape
        (plain_light p.types σ ψ left (Is σ s) k _ reach x.has r) (omega arith)
    level (layer.Unary op a) k env reach shapes scope s are r h m =
        unary_covers p.types σ ψ left old op (compiled a.0) (visited a.0) (sorted a.0) a.1
        k env reach shapes scope s are r h m
    level (layer.Binary op a b check) k env reach shapes scope s are r h m =
        binary_covers p.types σ ψ left old asked op check (compiled a.0) (compiled b.0) (visited a.0) (visited b.0)
        (sorted a.0) (sorted b.0) a.1 b.1 k env reach shapes scope s are r h m
    level (layer.Construct c args) k env reach shapes scope s are r h m =
        construct_covers p.types σ ψ left old c (map compiled (elements args)) (map visited (elements args))
        (map sorted (elements args)) (all_cover p asked site calls C args) k env reach shapes scope s are r h m
    level (layer.Field x i) k env reach shapes scope s are r h m =
        field_covers p.types σ ψ left old p.functions i (compiled x.0) (visited x.0) (sorted x.0) x.1
        k env reach shapes scope s are r h m
    level (layer.If t a b) k env reach shapes scope s are r h m =
        if_covers p.types σ ψ left old (compiled t.0) (compiled a.0) (compiled b.0) (visited t.0) (visited a.0)
        (visited b.0) (sorted t.0) (sorted a.0) (sorted b.0) t.1 a.1 b.1 k env reach shapes scope s are r h m
    level (layer.Match x ys check) k env reach shapes scope s are r h m =
        match_covers p σ ψ left old asked (compiled x.0) (visited x.0) (sorted x.0) x.1
        (map (arm asked site) (elements ys))
        (map (visit_case p.types calls) (elements ys)) (map (case_sorts p.types p.functions) (elements ys))
        (arms_cover p asked site calls C ys) check
        k env reach shapes scope s are r h m
    level (layer.Val a b) k env reach shapes scope s are r h m =
        val_covers p.types σ ψ left old (compiled a.0) (compiled b.0) (visited a.0) (visited b.0) (sorted a.0)
        (sorted b.0) a.1 b.1 k env reach shapes scope s are r h m
    level (layer.Assert check t b) k env reach shapes scope s are r h m =
        assert_covers p.types σ ψ left old asked (Some check) (compiled t.0) (compiled b.0) (visited t.0) (visited b.0)
        (sorted t.0) (sorted b.0) t.1 b.1 k env reach shapes scope s are r h m
    level (layer.Call g args pre down) k env reach shapes scope s are r h m =
        call_covers p.types σ ψ left old p.functions site calls its g pre down (map compiled (elements args))
        (map visited (elements args)) (map sorted (elements args)) (all_cover p asked site calls C args) k env reach
        shapes scope s are r h m

    pub expr_covers : (e : Expr) → C (compiled e) (visited e) (sorted e)
    expr_covers = expr_by_levels p asked site calls C level

    pub list_covers : (es : List Expr) → Aligned C (map compiled es) (map visited es) (map sorted es)
    list_covers = exprs_by_levels p asked site calls C level
