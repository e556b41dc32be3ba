-- The numbers of checks don't change what is called.
use Rattle.std.proofs.Common.{◌≡◌, ℕ, List, [], ◌∷◌, ◌++◌, map, Option, Some, None, refl, sym, ap, ◌∙◌}
use Rattle.std.specs.Option.{option_map}
use Rattle.pp_list.proofs.With.{With, elements}
use Rattle.pp_prog.proofs.Induction.{case_under, each_expr, under}
use Rattle.pp_prog.specs.Parts.{case_parts}
use Rattle.pp_list.specs.Joined.{joined}
use Rattle.pp_call_graph.proofs.Conditions.{both_parts}
use Rattle.pp_prog.proofs.CallForms.{calls_of_int, calls_of_bool, calls_of_var, calls_of_unary, calls_of_binary}
use Rattle.pp_prog.proofs.CallForms.{calls_of_construct, calls_of_field, calls_of_if}
use Rattle.pp_prog.proofs.CallForms.{calls_of_match, calls_of_val, calls_of_assert, calls_of_call, calls_of_case}
use Rattle.pp_prog.specs.Calls.{call_table, calls, calls_in_case, calls_step, function_calls}
use Rattle.pp_prog.specs.Calls.{post_calls, pre_calls}
use Rattle.pp_prog.specs.declared.expr.Case.{Case}
use Rattle.pp_prog.specs.declared.expr.Expr.{Expr}
use Rattle.pp_prog.specs.declared.expr.Expr.TheFolds.{fold-roll-Case, fold-roll-Expr, map-Case}
use Rattle.pp_prog.specs.declared.expr.Expr.TheFolds.{map-Expr}
use Rattle.pp_prog.specs.declared.expr.Expr.TheOpen as layer
use Rattle.pp_prog.specs.declared.expr.Expr.TheViews.{roll-Case, roll-Expr}
use Rattle.pp_prog.specs.declared.expr.Function.{Function}
use Rattle.pp_prog.specs.declared.expr.Pattern.{Pattern}
use Rattle.pp_prog.specs.declared.id.CheckId.{CheckId}
use Rattle.pp_translation.specs.Bare.{bare, bare_case, bare_function, bare_of_case, bare_post, bare_step}
use Rattle.pp_translation.specs.Exprs.{unnumbered}

abbrev Ns : Type 0
Ns = List ℕ

abbrev P : Expr → Type 0
P e = calls (bare e) ≡ calls e

abbrev Q : Case → Type 0
Q c = calls_in_case (bare_of_case c) ≡ calls_in_case c

bare_calls : (ys : List (With P)) → map calls (map bare (elements ys)) ≡ map calls (elements ys)
bare_calls [] = refl
bare_calls (y ∷ ys) =
    ap (λ (l : Ns). l ∷ map calls (map bare (elements ys))) y.1 ∙ ap (λ (l : List Ns). calls y.0 ∷ l) (bare_calls ys)

bare_case_calls : (ys : List (With Q))
    → map calls_in_case (map bare_of_case (elements ys)) ≡ map calls_in_case (elements ys)
bare_case_calls [] = refl
bare_case_calls (y ∷ ys) =
    ap (λ (l : Ns). l ∷ map calls_in_case (map bare_of_case (elements ys))) y.1
    ∙ ap (λ (l : List Ns). calls_in_case y.0 ∷ l) (bare_case_calls ys)

level : (y : layer.Expr-F (With P) (With Q))
    → calls (bare_step (map-Expr Expr Case Expr Case bare bare_of_case (under y)))
    ≡ calls_step (map-Expr Expr Case Ns Ns calls calls_in_case (under y))
level (layer.Int n) = calls_of_int n
level (layer.Bool b) = calls_of_bool b
level (layer.Var i) = calls_of_var i
level (layer.Unary op a) = calls_of_unary op (bare a.0) ∙ a.1
level (layer.Binary op a b check) = calls_of_binary op (bare a.0) (bare b.0) None ∙ both_parts a.1 b.1
level (layer.Construct c args) = calls_of_construct c (map bare (elements args)) ∙ ap joined (bare_calls args)
level (layer.Field e k) = calls_of_field (bare e.0) k ∙ e.1
level (layer.If c a b) = calls_of_if (bare c.0) (bare a.0) (bare b.0) ∙ both_parts (both_parts c.1 a.1) b.1
level (layer.Match e cases check) =
    calls_of_match (bare e.0) (map bare_of_case (elements cases)) None
    ∙ both_parts e.1 (ap joined (bare_case_calls cases))
level (layer.Val a b) = calls_of_val (bare a.0) (bare b.0) ∙ both_parts a.1 b.1
level (layer.Assert check c rest) = calls_of_assert unnumbered (bare c.0) (bare rest.0) ∙ both_parts c.1 rest.1
level (layer.Call g args pre measure) =
    calls_of_call g (map bare (elements args)) None None
    ∙ ap (λ (l : List Ns). joined l ++ g.0 ∷ []) (bare_calls args)

at_level : (y : layer.Expr-F (With P) (With Q)) → P (roll-Expr (under y))
at_level y =
    ap calls (fold-roll-Expr Expr Case bare_step bare_case (under y)) ∙ level y
    ∙ sym (fold-roll-Expr Ns Ns calls_step case_parts (under y))

at_parts : (p : Pattern) (o : Option (With P)) (b : With P)
    → let y : layer.Case-F (With P) (With Q) = record { pattern = p; guard = o; body = b } in
    calls_in_case (bare_case (map-Case Expr Case Expr Case bare bare_of_case (case_under Q y)))
    ≡ case_parts (map-Case Expr Case Ns Ns calls calls_in_case (case_under Q y))
at_parts p None b = calls_of_case (record { pattern = p; guard = None; body = bare b.0 }) ∙ b.1
at_parts p (Some g) b =
    calls_of_case (record { pattern = p; guard = Some (bare g.0); body = bare b.0 }) ∙ both_parts g.1 b.1

at_case : (y : layer.Case-F (With P) (With Q)) → Q (roll-Case (case_under Q y))
at_case y =
    ap calls_in_case (fold-roll-Case Expr Case bare_step bare_case (case_under Q y)) ∙ at_parts y.pattern y.guard y.body
    ∙ sym (fold-roll-Case Ns Ns calls_step case_parts (case_under Q y))

-- an expression calls what it calls without numbers
pub calls_of_bare : (e : Expr) → calls (bare e) ≡ calls e
calls_of_bare = each_expr P Q at_level at_case

of_all : (es : List Expr) → map calls (map bare es) ≡ map calls es
of_all [] = refl
of_all (e ∷ es) =
    ap (λ (l : Ns). l ∷ map calls (map bare es)) (calls_of_bare e) ∙ ap (λ (l : List Ns). calls e ∷ l) (of_all es)

of_pre : (pre : Option Expr) → pre_calls (option_map bare pre) ≡ pre_calls pre
of_pre None = refl
of_pre (Some e) = calls_of_bare e

of_post : (post : Option (CheckId × Expr)) → post_calls (bare_post post) ≡ post_calls post
of_post None = refl
of_post (Some post) = calls_of_bare post.1

of_function : (f : Function) → function_calls (bare_function f) ≡ function_calls f
of_function f =
    both_parts (both_parts (both_parts (of_pre f.pre) (ap joined (of_all f.measure))) (calls_of_bare f.body))
    (of_post f.post)

-- functions call what they call without numbers
pub table_of_bare : (fs : List Function) → call_table (map bare_function fs) ≡ call_table fs
table_of_bare [] = refl
table_of_bare (f ∷ fs) =
    ap (λ (l : Ns). l ∷ call_table (map bare_function fs)) (of_function f)
    ∙ ap (λ (l : List Ns). function_calls f ∷ l) (table_of_bare fs)
