-- The steps of each expression tell what it comes to.
use Rattle.std.proofs.Common.{List, [], ◌∷◌, map, Option, Some, None, refl, sym, subst}
use Rattle.pp_list.proofs.With.{With, elements}
use Rattle.pp_prog.proofs.Induction.{case_under, each_expr, under}
use Rattle.pp_tree.specs.declared.operator.BinaryOp.{BinaryOp}
use Rattle.pp_tree.specs.declared.operator.BinaryOp.TheVariants.{AndAlso, OrElse}
use Rattle.pp_prog.specs.declared.expr.Case.{Case}
use Rattle.pp_prog.specs.declared.expr.Expr.{Expr}
use Rattle.pp_prog.specs.declared.expr.Expr.TheFolds.{fold-roll-Case, fold-roll-Expr, map-Case, map-Expr}
use Rattle.pp_prog.specs.declared.expr.Expr.TheOpen as layer
use Rattle.pp_prog.specs.declared.expr.Expr.TheViews.{roll-Case, roll-Expr}
use Rattle.pp_prog.specs.declared.expr.Pattern.{Pattern}
use Rattle.pp_prog.specs.declared.id.CheckId.{CheckId}
use Rattle.pp_prog.specs.declared.types.Ctor.{Ctor}
use Rattle.pp_prog.specs.declared.value.Value.TheVariants.{Int, Bool as Truth}
use Rattle.pp_eval.specs.Meaning.{CallMeaning, Frame, Meaning, binary, meaning, meaning_step}
use Rattle.pp_eval.specs.Meaning as run
use Rattle.pp_eval.proofs.Extends.{CallsCover}
use Rattle.pp_steps.specs.declared.step.Step.TheVariants as steps
use Rattle.pp_steps.specs.Meaning.{Missing, Values}
use Rattle.pp_steps.specs.Compile.{Compiling, Site, compile, compile_step}
use Rattle.pp_steps.specs.Compile as code
use Rattle.pp_steps_run.proofs.Branches.{fork_goes, judged_right}
use Rattle.pp_steps_run.proofs.Cases.{RightArm, RightArms, match_right}
use Rattle.pp_steps_run.proofs.Lists.{AllRight, IsSite, call_right, construct_right}
use Rattle.pp_steps_run.proofs.Rights.{IsRight, field_right, literal_right, unary_right, val_right, variable_right}
use Rattle.pp_steps_run.proofs.Skips.{and_goes, assert_goes, or_goes}
use Rattle.pp_steps_run.proofs.Strict.{strict_right}

module _ (ctors : List Ctor) (missing : Missing) (ρ : Values) (asked : Option CheckId)
    (frame : Frame)
    (site : Site) (c d : CallMeaning) (more : CallsCover c d) (its : IsSite ctors missing ρ asked frame site c d)
  where
    abbrev Right : Compiling → Meaning → Meaning → Type 0
    Right = IsRight ctors missing ρ asked frame

    abbrev P : Expr → Type 0
    P e = Right (compile asked site e) (meaning c e) (meaning d e)

    abbrev Q : Case → Type 0
    Q k = RightArm ctors missing ρ asked frame (code.arm asked site k) (run.arm c k) (run.arm d k)

    all_right : (ys : List (With P))
        → AllRight ctors missing ρ asked frame (map (compile asked site) (elements ys))
        (map (meaning c) (elements ys)) (map (meaning d) (elements ys))
    all_right [] = tt
    all_right (y ∷ ys) = (y.1, all_right ys)

    arms_right : (ys : List (With Q))
        → RightArms ctors missing ρ asked frame (map (code.arm asked site) (elements ys))
        (map (run.arm c) (elements ys)) (map (run.arm d) (elements ys))
    arms_right [] = tt
    arms_right (y ∷ ys) = (y.1, arms_right ys)

    binary_right : (op : BinaryOp) (check : Option CheckId) (a : Compiling) (pa fa : Meaning) → Right a pa fa
        → (b : Compiling) (pb fb : Meaning) → Right b pb fb
        → Right (code.binary asked op a b check) (binary op pa pb check) (binary op fa fb check)
    binary_right AndAlso check a pa fa ra b pb fb rb = judged_right ctors missing ρ asked frame a pa fa ra _ _ _
        (and_goes ctors missing ρ asked frame b pb fb rb)
    binary_right OrElse check a pa fa ra b pb fb rb = judged_right ctors missing ρ asked frame a pa fa ra _ _ _
        (or_goes ctors missing ρ asked frame b pb fb rb)
    binary_right op check a pa fa ra b pb fb rb =
        strict_right ctors missing ρ asked frame op check a pa fa ra b pb fb rb

    level : (y : layer.Expr-F (With P) (With Q))
        → Right (compile_step asked site
        (map-Expr Expr Case Compiling code.Arm (compile asked site) (code.arm asked site) (under y)))
        (meaning_step c (map-Expr Expr Case Meaning run.Arm (meaning c) (run.arm c) (under y)))
        (meaning_step d (map-Expr Expr Case Meaning run.Arm (meaning d) (run.arm d) (under y)))
    level (layer.Int n) = literal_right ctors missing ρ asked frame (steps.Int n) (Int n) (λ k h. h.steps.0)
    level (layer.Bool b) = literal_right ctors missing ρ asked frame (steps.Bool b) (Truth b) (λ k h. h.steps.0)
    level (layer.Var i) = variable_right ctors missing ρ asked frame i
    level (layer.Unary op a) =
        unary_right ctors missing ρ asked frame (compile asked site a.0) (meaning c a.0) (meaning d a.0) a.1 op
    level (layer.Binary op a b check) = binary_right op check (compile asked site a.0) (meaning c a.0)
        (meaning d a.0) a.1 (compile asked site b.0) (meaning c b.0) (meaning d b.0) b.1
    level (layer.Construct k args) = construct_right ctors missing ρ asked frame _ _ _ (all_right args) k
    level (layer.Field e k) =
        field_right ctors missing ρ asked frame (compile asked site e.0) (meaning c e.0) (meaning d e.0) e.1 k
    level (layer.If t a b) =
        judged_right ctors missing ρ asked frame (compile asked site t.0) (meaning c t.0) (meaning d t.0) t.1 _ _ _
        (fork_goes ctors missing ρ asked frame (compile asked site a.0) (meaning c a.0) (meaning d a.0) a.1
        (compile asked site b.0) (meaning c b.0) (meaning d b.0) b.1)
    level (layer.Match e ys check) =
        match_right ctors missing ρ asked frame (compile asked site e.0) (meaning c e.0)
        (meaning d e.0) e.1 _ _ _ (arms_right ys) check
    level (layer.Val a b) = val_right ctors missing ρ asked frame (compile asked site a.0) (meaning c a.0)
        (meaning d a.0) a.1 (compile asked site b.0) (meaning c b.0) (meaning d b.0) b.1
    level (layer.Assert check t rest) =
        judged_right ctors missing ρ asked frame (compile asked site t.0) (meaning c t.0) (meaning d t.0) t.1 _ _ _
        (assert_goes ctors missing ρ asked frame (compile asked site rest.0) (meaning c rest.0)
        (meaning d rest.0) rest.1 check)
    level (layer.Call g args pre down) =
        call_right ctors missing ρ asked frame _ _ _ (all_right args) site c d more its g pre down

    at_level : (y : layer.Expr-F (With P) (With Q)) → P (roll-Expr (under y))
    at_level y =
        let z = under y in
        let steps_are = fold-roll-Expr Compiling code.Arm (compile_step asked site) (code.arm_step) z in
        let part_is = fold-roll-Expr Meaning run.Arm (meaning_step c) run.arm_step z in
        let full_is = fold-roll-Expr Meaning run.Arm (meaning_step d) run.arm_step z in
        subst (λ (m : Compiling). Right m (meaning c (roll-Expr z)) (meaning d (roll-Expr z))) (sym steps_are)
        (subst (λ (m : Meaning). Right
        (compile_step asked site
        (map-Expr Expr Case Compiling code.Arm (compile asked site) (code.arm asked site) z)) m
        (meaning d (roll-Expr z))) (sym part_is)
        (subst (λ (m : Meaning). Right
        (compile_step asked site (map-Expr Expr Case Compiling code.Arm (compile asked site) (code.arm asked site) z))
        (meaning_step c (map-Expr Expr Case Meaning run.Arm (meaning c) (run.arm c) z)) m) (sym full_is) (level y)))

    at_parts : (p : Pattern) (o : Option (With P)) (b : With P) → let y : layer.Case-F (With P) (With Q) =
        record { pattern = p; guard = o; body = b } in
        let z = case_under Q y in
        RightArm ctors missing ρ asked frame
        (code.arm_step (map-Case Expr Case Compiling code.Arm (compile asked site) (code.arm asked site) z))
        (run.arm_step (map-Case Expr Case Meaning run.Arm (meaning c) (run.arm c) z))
        (run.arm_step (map-Case Expr Case Meaning run.Arm (meaning d) (run.arm d) z))
    at_parts p None b = record { pattern = refl; full_pattern = refl; guard = tt; body = b.1 }
    at_parts p (Some e) b = record { pattern = refl; full_pattern = refl; guard = e.1; body = b.1 }

    at_case : (y : layer.Case-F (With P) (With Q)) → Q (roll-Case (case_under Q y))
    at_case y =
        let z = case_under Q y in
        let steps_are = fold-roll-Case Compiling code.Arm (compile_step asked site) (code.arm_step) z in
        let part_is = fold-roll-Case Meaning run.Arm (meaning_step c) run.arm_step z in
        let full_is = fold-roll-Case Meaning run.Arm (meaning_step d) run.arm_step z in
        let x = code.arm_step (map-Case Expr Case Compiling code.Arm (compile asked site) (code.arm asked site) z) in
        let a = run.arm_step (map-Case Expr Case Meaning run.Arm (meaning c) (run.arm c) z) in
        subst (λ (k : code.Arm). RightArm ctors missing ρ asked frame k (run.arm c (roll-Case z))
        (run.arm d (roll-Case z))) (sym steps_are)
        (subst (λ (k : run.Arm). RightArm ctors missing ρ asked frame x k (run.arm d (roll-Case z))) (sym part_is)
        (subst (λ (k : run.Arm). RightArm ctors missing ρ asked frame x a k) (sym full_is)
        (at_parts y.pattern y.guard y.body)))

    -- the steps of an expression are right, where those of its calls are
    pub expr_right : (e : Expr)
        → IsRight ctors missing ρ asked frame (compile asked site e) (meaning c e) (meaning d e)
    expr_right = each_expr P Q at_level at_case
