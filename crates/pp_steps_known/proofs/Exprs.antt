-- What an expression reaches is known, where what its calls reach is.
use Rattle.std.proofs.Common.{ℕ, List, [], ◌∷◌, map, Option, Some, None, sym, subst}
use Rattle.pp_list.proofs.With.{With, elements}
use Rattle.pp_prog.proofs.Induction.{case_under, each_expr, under}
use Rattle.pp_prog.specs.declared.expr.Case.{Case}
use Rattle.pp_prog.specs.declared.expr.Expr.{Expr}
use Rattle.pp_prog.specs.declared.expr.Expr.TheFolds.{fold-roll-Case, fold-roll-Expr, map-Case, map-Expr}
use Rattle.pp_prog.specs.declared.expr.Expr.TheOpen as layer
use Rattle.pp_prog.specs.declared.expr.Expr.TheViews.{roll-Case, roll-Expr}
use Rattle.pp_prog.specs.declared.expr.Pattern.{Pattern}
use Rattle.pp_prog.specs.declared.id.CheckId.{CheckId}
use Rattle.pp_prog.specs.declared.types.Ctor.{Ctor}
use Rattle.pp_steps.specs.declared.step.Step.TheVariants as steps
use Rattle.pp_steps.specs.Compile.{Arm, Compiling, Site, arm, arm_step, compile, compile_step}
use Rattle.pp_steps.specs.Meaning.{Missing, Values}
use Rattle.pp_steps_known.proofs.Forms.{AllKnow, Knows, SiteKnows, assert_knows, binary_knows, call_knows}
use Rattle.pp_steps_known.proofs.Forms.{construct_knows, if_knows, literal_knows, map_knows, val_knows, variable_knows}
use Rattle.pp_steps_known.proofs.Matches.{AllArmsKnow, ArmKnows, match_knows}

module _ (ctors : List Ctor) (missing : Missing) (ρ : Values) (K : ℕ → Type 0) (first : K 0) (C : Type 0)
    (asked : Option CheckId) (site : Site) (its : SiteKnows ctors missing ρ K C site) where
  abbrev P : Expr → Type 0
  P e = Knows ctors missing ρ K C (compile asked site e)

  abbrev Q : Case → Type 0
  Q k = ArmKnows ctors missing ρ K C (arm asked site k)

  all_know : (ys : List (With P)) → AllKnow ctors missing ρ K C (map (compile asked site) (elements ys))
  all_know [] = tt
  all_know (y ∷ ys) = (y.1, all_know ys)

  arms_know : (ys : List (With Q)) → AllArmsKnow ctors missing ρ K C (map (arm asked site) (elements ys))
  arms_know [] = tt
  arms_know (y ∷ ys) = (y.1, arms_know ys)

  level : (y : layer.Expr-F (With P) (With Q))
      → Knows ctors missing ρ K C (compile_step asked site
      (map-Expr Expr Case Compiling Arm (compile asked site) (arm asked site) (under y)))
  level (layer.Int n) = literal_knows ctors missing ρ K C (steps.Int n) (λ k h. h)
  level (layer.Bool b) = literal_knows ctors missing ρ K C (steps.Bool b) (λ k h. h)
  level (layer.Var i) = variable_knows ctors missing ρ K C first i
  level (layer.Unary op a) =
      map_knows ctors missing ρ K C (compile asked site a.0) (λ x. steps.Unary op x) a.1 (λ n x h. h)
  level (layer.Binary op a b check) =
      binary_knows ctors missing ρ K C asked op check (compile asked site a.0) (compile asked site b.0) a.1 b.1
  level (layer.Construct c args) =
      construct_knows ctors missing ρ K C (map (compile asked site) (elements args)) (all_know args) c
  level (layer.Field x i) =
      map_knows ctors missing ρ K C (compile asked site x.0) (λ a. steps.Field a i) x.1 (λ n a h. h)
  level (layer.If t a b) =
      if_knows ctors missing ρ K C (compile asked site t.0) (compile asked site a.0) (compile asked site b.0)
      t.1 a.1 b.1
  level (layer.Match x ys check) =
      match_knows ctors missing ρ K C asked (compile asked site x.0) x.1 (map (arm asked site) (elements ys))
      (arms_know ys) check
  level (layer.Val a b) =
      val_knows ctors missing ρ K C (compile asked site a.0) (compile asked site b.0) a.1 b.1
  level (layer.Assert check t rest) =
      assert_knows ctors missing ρ K C asked (Some check) (compile asked site t.0) (compile asked site rest.0)
      t.1 rest.1
  level (layer.Call g args pre down) =
      call_knows ctors missing ρ K C (map (compile asked site) (elements args)) (all_know args)
      site its g pre down

  at_level : (y : layer.Expr-F (With P) (With Q)) → P (roll-Expr (under y))
  at_level y = subst (λ (m : Compiling). Knows ctors missing ρ K C m)
      (sym (fold-roll-Expr Compiling Arm (compile_step asked site) arm_step (under y))) (level y)

  at_parts : (p : Pattern) (o : Option (With P)) (b : With P) → let y : layer.Case-F (With P) (With Q) =
      record { pattern = p; guard = o; body = b } in
      let z = case_under Q y in
      ArmKnows ctors missing ρ K C
      (arm_step (map-Case Expr Case Compiling Arm (compile asked site) (arm asked site) z))
  at_parts p None b = record { guard = tt; body = b.1 }
  at_parts p (Some e) b = record { guard = e.1; body = b.1 }

  at_case : (y : layer.Case-F (With P) (With Q)) → Q (roll-Case (case_under Q y))
  at_case y =
      let z = case_under Q y in
      subst (λ (k : Arm). ArmKnows ctors missing ρ K C k)
      (sym (fold-roll-Case Compiling Arm (compile_step asked site) arm_step z)) (at_parts y.pattern y.guard y.body)

  pub expr_knows : (e : Expr) → Knows ctors missing ρ K C (compile asked site e)
  expr_knows = each_expr P Q at_level at_case

  pub exprs_know : (es : List Expr) → AllKnow ctors missing ρ K C (map (compile asked site) es)
  exprs_know [] = tt
  exprs_know (e ∷ es) = (expr_knows e, exprs_know es)
