-- Induction over expressions, cases and patterns: what holds wherever it holds of the parts holds of all.
use Rattle.std.proofs.Common.{subst}
use Rattle.pp_list.proofs.With.{With}
use Rattle.pp_prog.specs.declared.expr.Case.{Case}
use Rattle.pp_prog.specs.declared.expr.Expr.{Expr}
use Rattle.pp_prog.specs.declared.expr.Expr.TheFolds.{ind-Case, ind-Expr, map-Case, map-Expr}
use Rattle.pp_prog.specs.declared.expr.Expr.TheOpen as layer
use Rattle.pp_prog.specs.declared.expr.Expr.TheViews.{roll-Case, roll-Expr}
use Rattle.pp_prog.specs.declared.expr.Pattern.{Pattern}
use Rattle.pp_prog.specs.declared.expr.Pattern.TheFolds.{ind-Pattern, map-Pattern}
use Rattle.pp_prog.specs.declared.expr.Pattern.TheOpen as pattern
use Rattle.pp_prog.specs.declared.expr.Pattern.TheViews.{roll-Pattern}

-- a level of an expression, without what is known of its parts
abbrev pub under : {P : Expr → Type 0} {Q : Case → Type 0} → layer.Expr-F (With P) (With Q) → layer.Expr-F Expr Case
under {P} {Q} y = map-Expr (With P) (With Q) Expr Case (λ z. z.0) (λ z. z.0) y

-- a level of a case
abbrev pub case_under : {P : Expr → Type 0} (Q : Case → Type 0) → layer.Case-F (With P) (With Q)
    → layer.Case-F Expr Case
case_under {P} Q y = map-Case (With P) (With Q) Expr Case (λ z. z.0) (λ z. z.0) y

module _ (P : Expr → Type 0) (Q : Case → Type 0)
    (expr : (y : layer.Expr-F (With P) (With Q)) → P (roll-Expr (under y)))
    (case : (y : layer.Case-F (With P) (With Q)) → Q (roll-Case (case_under Q y)))
  where
    -- of each expression
    pub each_expr : (e : Expr) → P e
    each_expr = ind-Expr P Q (λ x y is. subst (λ z. P (roll-Expr z)) is (expr y))
        (λ x y is. subst (λ z. Q (roll-Case z)) is (case y))

    -- of each case
    pub each_case : (k : Case) → Q k
    each_case = ind-Case P Q (λ x y is. subst (λ z. P (roll-Expr z)) is (expr y))
        (λ x y is. subst (λ z. Q (roll-Case z)) is (case y))

-- a level of a pattern
abbrev pub pattern_under : {P : Pattern → Type 0} → pattern.Pattern-F (With P) → pattern.Pattern-F Pattern
pattern_under {P} y = map-Pattern (With P) Pattern (λ z. z.0) y

-- of each pattern
pub each_pattern : (P : Pattern → Type 0)
    → ((y : pattern.Pattern-F (With P)) → P (roll-Pattern (pattern_under y))) → (p : Pattern) → P p
each_pattern P at_level = ind-Pattern P (λ x y is. subst (λ z. P (roll-Pattern z)) is (at_level y))
