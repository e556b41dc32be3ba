-- Cases of a match, one at a time.
use Rattle.std.proofs.Common.{◌≡◌, ◌∙◌, ℕ, ◌+◌, ◌<◌, List, [], ◌∷◌, ◌++◌, length, map, drop, get_or, Ok, Err, Result}
use Rattle.std.proofs.Common.{Option, Some, None, option_map, refl, sym, ap, subst}
use Rattle.std.proofs.lemmas.List.{get_or_default}
use Rattle.pp_fault.specs.declared.Halt.{Halt}
use Rattle.pp_fault.specs.Part.{Part, Tells, and_then}
use Rattle.pp_generic.specs.declared.expected.Expected.{Expected}
use Rattle.pp_rules.specs.Elab.{elab_arm, elab_cases}
use Rattle.pp_rules.specs.Scope.{Env, Scope}
use Rattle.pp_tree.specs.declared.expr.Case.{Case}
use Rattle.pp_tree.specs.declared.expr.Expr.{Expr}
use Rattle.pp_tree.specs.declared.expr.ExprKind.{ExprKind}
use Rattle.pp_tree.specs.declared.expr.ExprKind.TheViews.{out-Case}
use Rattle.pp_tree.specs.declared.expr.ExprKind.TheFolds.{fold-ExprKind, fold_out-Case, map-Case}
use Rattle.pp_tree.specs.declared.pattern.Pattern.{Pattern}
use Rattle.pp_tree.specs.Plain.{CaseTrees, PatternTree, Tree}
use Rattle.pp_tree.specs.Shown.{case_before, case_of, case_step, case_trees, expr_step, kind_step, pattern_of, tree_of}
use Rattle.pp_typed.specs.declared.expr.TypedCase.{TypedCase}
use Rattle.pp_typed.specs.declared.sort.GenericSort.{GenericSort}
use Rattle.pp_typing.proofs.Turns.{stop, turn}
use Rattle.pp_typing.specs.declared.context.Context.{Context}
use Rattle.pp_typing.specs.declared.scope.Local.{Local}
use Rattle.pp_typing.specs.Views.{arm_typing, cases_typing, env_of, scope_of}

abbrev kind_of : ExprKind → ℕ → Tree
kind_of = fold-ExprKind (ℕ → Tree) (CaseTrees → CaseTrees) Tree kind_step case_step expr_step

opened : (p : Pattern) (g : Option Expr) (b : Expr)
    → case_step (map-Case ExprKind Case Expr (ℕ → Tree) (CaseTrees
    → CaseTrees) Tree kind_of case_of tree_of (record { pattern = p; guard = g; body = b }))
    ≡ case_before (pattern_of p) (option_map tree_of g) (tree_of b)
opened p None b = refl
opened p (Some g) b = refl

case_is : (c : Case) → let parts = out-Case c in case_of c ≡ case_before (pattern_of parts.pattern)
    (option_map tree_of parts.guard) (tree_of parts.body)
case_is c =
    let parts = out-Case c in
    fold_out-Case (ℕ → Tree) (CaseTrees → CaseTrees) Tree kind_step case_step expr_step c
    ∙ opened parts.pattern parts.guard parts.body

before : (env : Env) (sc : Scope) (x : Expected) (s : GenericSort) (done : List TypedCase) (p : PatternTree)
    (g : Option Tree) (b : Tree) (cs : CaseTrees)
    → elab_cases env done (case_before p g b cs) sc x s
    ≡ and_then (elab_arm env done p g b sc x s) (λ a. elab_cases env (done ++ a ∷ []) cs sc x s)
before env sc x s done p None b cs = refl
before env sc x s done p (Some g) b cs = refl

pub cases_step : (c : Context) (locals : List Local) (x : Expected) (s : GenericSort) (done : List TypedCase)
    (case : Case) (cases : List Case)
    → cases_typing c locals x s done (case ∷ cases)
    ≡ and_then (arm_typing c locals x s done case) (λ a. cases_typing c locals x s (done ++ a ∷ []) cases)
cases_step c locals x s done case cases =
    let env = env_of c in
    let sc = scope_of locals in
    let parts = out-Case case in
    let rest = case_trees (map case_of cases) in
    ap (λ (f : CaseTrees → CaseTrees). elab_cases env done (f rest) sc x s) (case_is case)
    ∙ before env sc x s done (pattern_of parts.pattern) (option_map tree_of parts.guard) (tree_of parts.body) rest

-- the rest of the cases after a turn, and where a turn stops
module _ (c : Context) (locals sc : List Local) (x : Expected) (s : GenericSort) (whole : Part (List TypedCase))
    (cases : List Case) (i : ℕ) (d : Case)
    (done seen : List TypedCase) (lt : i < length cases) (same : sc ≡ locals) (all : seen ≡ done)
    (e : whole ≡ cases_typing c locals x s done (drop i cases)) where
  pub cases_turn : (a : TypedCase) (more : List TypedCase) → more ≡ done ++ a ∷ []
      → arm_typing c sc x s seen (get_or cases i d) ≡ Ok a → whole ≡ cases_typing c locals x s more (drop (i + 1) cases)
  cases_turn a more push one =
      let one2 = ap (λ l. arm_typing c l x s done (get_or cases i d)) (sym same)
      ∙ ap (λ l. arm_typing c sc x s l (get_or cases i d)) (sym all) ∙ one in
      turn (cases_typing c locals x s) (arm_typing c locals x s) (cases_step c locals x s) whole cases i
      (get_or cases i d) done a
      lt (get_or_default cases i d (get_or cases i d) lt) e one2
      ∙ ap (λ l. cases_typing c locals x s l (drop (i + 1) cases)) (sym push)

  pub cases_stop : (r : Result (List TypedCase) Halt) (h : Halt) → r ≡ Err h
      → Tells {A = TypedCase} (Err h) (arm_typing c sc x s seen (get_or cases i d)) → Tells r whole
  cases_stop r h is told =
      let told2 = subst (λ l. Tells {A = TypedCase} (Err h) (arm_typing c locals x s l (get_or cases i d))) all
      (subst (λ l. Tells {A = TypedCase} (Err h) (arm_typing c l x s seen (get_or cases i d))) same told) in
      subst (λ q. Tells q whole) (sym is)
      (stop (cases_typing c locals x s) (arm_typing c locals x s) (cases_step c locals x s) whole cases i
      (get_or cases i d) done h
      lt (get_or_default cases i d (get_or cases i d) lt) e told2)
