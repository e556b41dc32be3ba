-- A translation lists at most two checks for each node of expression, and one more for a postcondition.
use Rattle.std.proofs.Common.{◌≡◌, ◌≤◌, ◌<◌, ℕ, zero, suc, ◌+◌, ◌*◌, ◌^◌, Bool, true, false, not, List, [], ◌∷◌, ◌++◌}
use Rattle.std.proofs.Common.{map, sum, length, Option, Some, None, refl, sym, ap, ◌∙◌, subst, arith}
use Rattle.std.specs.Prelude.{slice_get}
use Rattle.std.proofs.lemmas.List.{length-append, map-append}
use Rattle.std.proofs.lemmas.List.Sums.{sum_by-append, sum_by-cons}
use Rattle.std.proofs.lemmas.Option.{same_Some}
use Rattle.pp_prog.specs.declared.check.CheckKind.TheVariants as check
use Rattle.pp_prog.specs.declared.expr.Case.{Case}
use Rattle.pp_prog.specs.declared.expr.Expr.{Expr}
use Rattle.pp_prog.specs.declared.expr.Function.{Function}
use Rattle.pp_prog.specs.declared.id.CheckId.{CheckId}
use Rattle.pp_prog.specs.declared.id.FunctionId.{FunctionId}
use Rattle.pp_instances.specs.declared.member.Instance.{Instance}
use Rattle.pp_translation.specs.Defs.{TranslateConditions, TranslatesDef, TranslatesDefs, TranslatesPost, no_defs}
use Rattle.pp_translation.specs.Defs.{more_defs, none_more, no_post, one_post, post_check}
use Rattle.pp_translation.specs.Numbered.{Translates, TranslateAll, TranslateGuard, TranslateCase, TranslateCases}
use Rattle.pp_operators.specs.Classes.{is_division}
use Rattle.pp_translation.specs.Numbered.{after_call, after_pre, callee, check_at, descends, has_pre}
use Rattle.pp_translation.specs.Numbered.{more_if, of_int, of_bool, of_local, of_call, of_construct, of_field, of_unary}
use Rattle.pp_translation.specs.Numbered.{of_binary, of_if, of_match, of_val, of_assert, no_exprs, one_more, no_guard}
use Rattle.pp_translation.specs.Numbered.{one_guard, one_case, no_cases, more_cases}
use Rattle.pp_translation.specs.Setting.{Setting}
use Rattle.pp_translation.specs.declared.frame.CheckAt.{CheckAt}
use Rattle.pp_translation.specs.declared.frame.Frame.{Frame}
use Rattle.pp_typed.specs.Limits.{case_nodes, def_nodes, expr_nodes, kind_nodes, nodes, post_nodes, IsSmall}
use Rattle.pp_typed.specs.declared.expr.TypedCase.{TypedCase}
use Rattle.pp_typed.specs.declared.expr.TypedExpr.{TypedExpr}
use Rattle.pp_typed.specs.declared.expr.TypedKind.{TypedKind}
use Rattle.pp_typed.specs.declared.expr.TypedKind.TheFolds.{fold-TypedCase, fold_out-TypedCase, map-TypedCase}
use Rattle.pp_typed.specs.declared.expr.TypedKind.TheVariants as kind
use Rattle.pp_typed.specs.declared.expr.TypedKind.TheViews.{out-TypedCase}
use Rattle.pp_typed.specs.declared.pattern.TypedPattern.{TypedPattern}
use Rattle.pp_typed.specs.declared.sort.GenericSort.{GenericSort}
use Rattle.pp_typed.specs.declared.typed.Typed.{Typed}
use Rattle.pp_typed.specs.declared.typed.TypedDef.{TypedDef}
use Rattle.pp_typed.specs.declared.typed.TypedPost.{TypedPost}
use Rattle.pp_typed_forms.proofs.Folds.{of_kind, assert_is, binary_is, call_is, construct_is, expr_is, field_is, if_is}
use Rattle.pp_typed_forms.proofs.Folds.{match_is, unary_is, val_is}

-- how many expressions a guard, and a case, are made of
abbrev guard_nodes : Option TypedExpr → ℕ
guard_nodes None = 0
guard_nodes (Some guard) = nodes guard

abbrev nodes_of_case : TypedCase → ℕ
nodes_of_case = fold-TypedCase ℕ ℕ ℕ kind_nodes case_nodes expr_nodes

-- the most checks of a function with so many nodes, and of each function of small typed units, which has fewer than
-- 2^22
abbrev most_checks : ℕ → ℕ
most_checks n = 2 * n + 1

abbrev pub most_checks_each : ℕ
most_checks_each = 8388607

abbrev below : TypedKind → ℕ
below = of_kind kind_nodes case_nodes expr_nodes

-- the nodes of an expression, by its form
nodes_by : (e : TypedExpr) (k : TypedKind) (n : ℕ) → e.kind ≡ k → below k ≡ n → nodes e ≡ n + 1
nodes_by e k n is has = expr_is kind_nodes case_nodes expr_nodes e ∙ ap (λ m. m + 1) (ap below is ∙ has)

in_layer : (p : TypedPattern) (g : Option TypedExpr) (b : TypedExpr)
    → case_nodes (map-TypedCase TypedKind TypedCase TypedExpr ℕ ℕ ℕ below nodes_of_case nodes
    (record { pattern = p; guard = g; body = b })) ≡ guard_nodes g + nodes b
in_layer p None b = refl
in_layer p (Some g) b = refl

-- the nodes of a case are those of its guard and its body
case_nodes_are : (c : TypedCase) → nodes_of_case c ≡ guard_nodes (out-TypedCase c).guard + nodes (out-TypedCase c).body
case_nodes_are c =
    fold_out-TypedCase ℕ ℕ ℕ kind_nodes case_nodes expr_nodes c
    ∙ in_layer (out-TypedCase c).pattern (out-TypedCase c).guard (out-TypedCase c).body

sum_push : {X : Type 0} (f : X → ℕ) (xs : List X) (x : X) → sum (map f (xs ++ x ∷ [])) ≡ sum (map f xs) + f x
sum_push f xs x =
    let all = ap sum (map-append f xs (x ∷ [])) ∙ sum_by-append (λ n. n) (map f xs) (f x ∷ []) in
    let last = sum_by-cons (λ n. n) (f x) [] in
    let none : sum [] ≡ 0 = refl in
    omega arith

few_more : (b : Bool) (c : CheckAt) (cs : List CheckAt) → length (more_if b c cs) ≤ length cs + 1
few_more true c cs = let e = length-append cs (c ∷ []) in omega arith
few_more false c cs = omega arith

one_after : (cs : List CheckAt) (c : CheckAt) → length (cs ++ c ∷ []) ≡ length cs + 1
one_after cs c = let e = length-append cs (c ∷ []) in omega arith

module _ (typed : Typed) (set : Setting) (own : Frame) where
  call_lists : (e : TypedExpr) (f : ℕ) (g : FunctionId) (cs : List CheckAt)
      → length (after_call typed set own e f g cs) ≤ length cs + 2
  call_lists e f g cs =
      let pre : length (after_pre typed set own e f cs) ≤ length cs + 1 =
      few_more (has_pre (slice_get typed.defs f)) (check_at typed set own check.Precondition e) cs in
      let down : length (after_call typed set own e f g cs) ≤ length (after_pre typed set own e f cs) + 1 =
      few_more (descends typed set own f g) (check_at typed set own check.Measure e) (after_pre typed set own e f cs) in
      omega (arith, pre, down)

  mutual
    lists : {e : TypedExpr} {x : Expr} {old new : List CheckAt} → Translates typed set own e x old new
        → length new ≤ length old + 2 * nodes e
    lists (of_int n is) = omega arith
    lists (of_bool b is) = omega arith
    lists (of_local i is) = omega arith
    lists {e = e} (of_call {es = es} {old = old} {mid = mid} f sorts is all) =
        let here = nodes_by e (kind.Call f sorts es) (sum (map nodes es)) is
        (call_is kind_nodes case_nodes expr_nodes f sorts es) in
        let parts = lists_all all in
        let own_checks = call_lists e f (callee typed set own f sorts) mid in
        omega (arith, here, parts, own_checks)
    lists {e = e} (of_construct {es = es} c sorts is all) =
        let here = nodes_by e (kind.Construct c sorts es) (sum (map nodes es)) is
        (construct_is kind_nodes case_nodes expr_nodes c sorts es) in
        let parts = lists_all all in
        omega (arith, here, parts)
    lists {e = e} (of_field {base = base} j is t) =
        let here = nodes_by e (kind.Field base j) (nodes base) is
        (field_is kind_nodes case_nodes expr_nodes base j) in
        let part = lists t in
        omega (arith, here, part)
    lists {e = e} (of_unary {a = a} op is t) =
        let here = nodes_by e (kind.Unary op a) (nodes a) is (unary_is kind_nodes case_nodes expr_nodes op a) in
        let part = lists t in
        omega (arith, here, part)
    lists {e = e} (of_binary {a = a} {b = b} {new = new} op is t u) =
        let here = nodes_by e (kind.Binary op a b) (nodes a + nodes b) is
        (binary_is kind_nodes case_nodes expr_nodes op a b) in
        let left = lists t in
        let right = lists u in
        let own_check = few_more (is_division op) (check_at typed set own check.Division e) new in
        omega (arith, here, left, right, own_check)
    lists {e = e} (of_if {c = c} {a = a} {b = b} is t u v) =
        let here = nodes_by e (kind.If c a b) (nodes c + nodes a + nodes b) is
        (if_is kind_nodes case_nodes expr_nodes c a b) in
        let test = lists t in
        let left = lists u in
        let right = lists v in
        omega (arith, here, test, left, right)
    lists {e = e} (of_match {m = m} {cs = cs} {mid = mid} covered is t covers rest) =
        let here = nodes_by e (kind.Match m cs) (nodes m + sum (map nodes_of_case cs)) is
        (match_is kind_nodes case_nodes expr_nodes m cs) in
        let matched = lists t in
        let own_check = few_more (not covered) (check_at typed set own check.Match e) mid in
        let cases = lists_cases rest in
        omega (arith, here, matched, own_check, cases)
    lists {e = e} (of_val {bound = bound} {rest = rest} is t u) =
        let here = nodes_by e (kind.Val bound rest) (nodes bound + nodes rest) is
        (val_is kind_nodes case_nodes expr_nodes bound rest) in
        let first = lists t in
        let second = lists u in
        omega (arith, here, first, second)
    lists {e = e} (of_assert {c = c} {rest = rest} {mid = mid} is t u) =
        let here = nodes_by e (kind.Assert c rest) (nodes c + nodes rest) is
        (assert_is kind_nodes case_nodes expr_nodes c rest) in
        let first = lists t in
        let own_check = one_after mid (check_at typed set own check.Assertion e) in
        let second = lists u in
        omega (arith, here, first, own_check, second)

    lists_all : {es : List TypedExpr} {xs : List Expr} {old new : List CheckAt}
        → TranslateAll typed set own es xs old new → length new ≤ length old + 2 * sum (map nodes es)
    lists_all no_exprs = omega arith
    lists_all (one_more {es = es} {e = e} all one) =
        let sizes = sum_push nodes es e in
        let before = lists_all all in
        let last = lists one in
        omega (arith, sizes, before, last)

    lists_guard : {g : Option TypedExpr} {x : Option Expr} {old new : List CheckAt}
        → TranslateGuard typed set own g x old new → length new ≤ length old + 2 * guard_nodes g
    lists_guard no_guard = omega arith
    lists_guard (one_guard t) = lists t

    lists_case : {s : GenericSort} {c : TypedCase} {y : Case} {old new : List CheckAt}
        → TranslateCase typed set own s c y old new → length new ≤ length old + 2 * nodes_of_case c
    lists_case (one_case c guard body) =
        let here = case_nodes_are c in
        let first = lists_guard guard in
        let second = lists body in
        omega (arith, here, first, second)

    lists_cases : {s : GenericSort} {cs : List TypedCase} {ys : List Case} {old new : List CheckAt}
        → TranslateCases typed set own s cs ys old new → length new ≤ length old + 2 * sum (map nodes_of_case cs)
    lists_cases no_cases = omega arith
    lists_cases (more_cases {cases = cases} {c = c} all one) =
        let sizes = sum_push nodes_of_case cases c in
        let before = lists_cases all in
        let last = lists_case one in
        omega (arith, sizes, before, last)

  lists_conditions : {es : List TypedExpr} {whole : Option Expr} {old new : List CheckAt}
      → TranslateConditions typed set own es whole old new → length new ≤ length old + 2 * sum (map nodes es)
  lists_conditions t = lists_all t.each

  lists_post : {source : ℕ} {p : Option TypedPost} {q : Option (CheckId × Expr)} {old new : List CheckAt}
      → TranslatesPost typed set own source p q old new → length new ≤ length old + (2 * post_nodes p + 1)
  lists_post no_post = omega arith
  lists_post {source = source} (one_post {post = post} {new = new} t) =
      let claim = lists t in
      let own_check = one_after new (post_check typed set own source post.at) in
      omega (arith, claim, own_check)

  lists_def : {texts : List (List ℕ)} {i : Instance} {d : TypedDef} {f : Function} {old new : List CheckAt}
      → TranslatesDef typed set own texts i d f old new → length new ≤ length old + most_checks (def_nodes d)
  lists_def t =
      let pre = lists_conditions t.pre in
      let measure = lists_all t.measure in
      let body = lists t.body in
      let post = lists_post t.post in
      omega (arith, pre, measure, body, post)

sum_at : {X : Type 0} (f : X → ℕ) (xs : List X) (i : ℕ) (x : X) → slice_get xs i ≡ Some x → f x ≤ sum (map f xs)
sum_at f [] i x e = cc
sum_at f (y ∷ xs) zero x e =
    let all = sum_by-cons (λ n. n) (f y) (map f xs) in
    let same : f y ≡ f x = ap f (same_Some y x e) in
    omega (arith, all, same)
sum_at f (y ∷ xs) (suc i) x e =
    let all = sum_by-cons (λ n. n) (f y) (map f xs) in
    let rest = sum_at f xs i x e in
    omega (arith, all, rest)

-- the functions of small typed units list few checks each
pub lists_defs : (typed : Typed) (set : Setting) (texts : List (List ℕ)) {is : List Instance} {fs : List Function}
    {old new : List CheckAt} → IsSmall typed → TranslatesDefs typed set texts is fs old new
    → length new ≤ length old + length is * most_checks_each
lists_defs typed set texts small no_defs = omega arith
lists_defs typed set texts small (more_defs {is = is} {i = i} own d number args measured at all one) =
    let before = lists_defs typed set texts small all in
    let last = lists_def typed set own one in
    let size = sum_at def_nodes typed.defs i.number d at in
    let few = small.nodes in
    let count = length-append is (i ∷ []) in
    omega (arith, before, last, size, few, count)
lists_defs typed set texts small (none_more {is = is} i at all) =
    let before = lists_defs typed set texts small all in
    let count = length-append is (i ∷ []) in
    omega (arith, before, count)
