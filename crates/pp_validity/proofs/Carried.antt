-- The sites of a translated expression are listed in order, stand where the typed expression has them, and each carries
-- a check exactly where it can fail.
use Rattle.std.proofs.Common.{◌≡◌, ℕ, true, not, List, [], ◌∷◌, ◌++◌, map, length, refl, sym, ap, ◌∙◌}
use Rattle.std.specs.Prelude.{Option, Some, Contains}
use Rattle.std.proofs.lemmas.List.{append-nil, map-append, map_push}
use Rattle.std.proofs.lemmas.List.Elements.{Contains-push, Contains-append_left}
use Rattle.pp_list.specs.Joined.{joined}
use Rattle.pp_list.proofs.Joined.{joined_push}
use Rattle.pp_instances.specs.Uses.{case_mentions, function_at, guard_mentions, mentions, types_of}
use Rattle.pp_instances.specs.declared.member.Member.{Member}
use Rattle.pp_prog.specs.ExprSorts.{sort_of}
use Rattle.pp_prog.specs.Listing.{Site, assertion, matching, at_sort, case_beside, sites, sites_in_case}
use Rattle.pp_prog.specs.Listing.{sites_of_cases, unguarded, with_bound, with_case_sites}
use Rattle.pp_prog.specs.PatternSorts.{bound_sorts}
use Rattle.pp_prog.specs.declared.check.CheckKind.TheVariants as check
use Rattle.pp_prog.specs.declared.expr.Case.{Case}
use Rattle.pp_prog.specs.declared.expr.Expr.{Expr}
use Rattle.pp_prog.specs.declared.expr.Function.{Function}
use Rattle.pp_prog.specs.declared.sort.Sort.{Sort}
use Rattle.pp_translation.specs.Numbered.{Translates, TranslateAll, TranslateGuard, TranslateCase, TranslateCases}
use Rattle.pp_translation.specs.Numbered.{callee, check_at, more_if, number_if, of_int, of_bool, of_local, of_call}
use Rattle.pp_translation.specs.Numbered.{of_construct, of_field, of_unary, of_binary, of_if, of_match, of_val}
use Rattle.pp_translation.specs.Numbered.{of_assert, no_exprs, one_more, no_guard, one_guard, one_case, no_cases}
use Rattle.pp_translation.specs.Numbered.{more_cases}
use Rattle.pp_translation.specs.Numbers.{sort_at}
use Rattle.pp_translation.specs.Patterns.{pattern_at}
use Rattle.pp_translation.specs.Places.{site_offsets}
use Rattle.pp_translation.specs.Setting.{Setting}
use Rattle.pp_translation.specs.declared.frame.CheckAt.{CheckAt}
use Rattle.pp_translation.specs.declared.frame.Frame.{Frame}
use Rattle.pp_typed.specs.Put.{put}
use Rattle.pp_typed.specs.Sorted.{IsSorted, AreSorted, IsSortedGuard, AreSortedCases, one_guard as guarded}
use Rattle.pp_typed.specs.declared.expr.TypedCase.{TypedCase}
use Rattle.pp_typed.specs.declared.expr.TypedExpr.{TypedExpr}
use Rattle.pp_typed.specs.declared.expr.TypedKind.TheVariants as kind
use Rattle.pp_typed.specs.declared.expr.TypedKind.TheViews.{out-TypedCase}
use Rattle.pp_typed.specs.declared.sort.GenericSort.{GenericSort}
use Rattle.pp_typed.specs.declared.typed.Typed.{Typed}
use Rattle.pp_validity.proofs.Exprs as exprs
use Rattle.pp_validity.proofs.Exprs.{OneCase, split, split_cases}
use Rattle.pp_validity.proofs.FormSites.{call_sites, case_is, covered_patterns, guard_in, match_site, of_cases_append}
use Rattle.pp_validity.proofs.FormSites.{operator}
use Rattle.pp_validity.proofs.Known.{HasTypes, IsGrouped, IsKnown}
use Rattle.pp_validity.proofs.Listed.{Lists, lists_append, lists_none, lists_same, one_if}
use Rattle.pp_validity.proofs.Patterns.{pattern_binds}
use Rattle.pp_prog.proofs.SiteForms.{In, sites_int, sites_bool, sites_var, sites_unary, sites_binary, sites_construct}
use Rattle.pp_prog.proofs.SiteForms.{sites_field, sites_if, sites_match, sites_val, sites_assert, sites_call}
use Rattle.pp_validity.proofs.Sites.{offsets_int, offsets_bool, offsets_local, offsets_call, offsets_construct}
use Rattle.pp_validity.proofs.Sites.{offsets_field, offsets_unary, offsets_binary, offsets_if, offsets_match}
use Rattle.pp_validity.proofs.Sites.{offsets_val, offsets_assert, offsets_case, offsets_in_case, offsets_of_guard}
use Rattle.pp_validity.proofs.Within.{Within, in_left, in_right, in_call, in_construct, in_field, in_unary, in_binary}
use Rattle.pp_validity.proofs.Within.{in_if, in_match, in_val, in_assert, in_parts, in_case}

module _ (typed : Typed) (set : Setting) (ms : List Member) (fs : List Function) (known : IsKnown typed set ms fs)
    (own : Frame) (grouped : IsGrouped typed set ms fs own)
    (params : ℕ) (own_types : (s : GenericSort) → Contains own.args s → HasTypes ms s) where
  abbrev G : GenericSort → Sort
  G s = sort_at set.roots own.args s

  abbrev At : List GenericSort → Expr → List Site
  At scope x = In set.types fs (map G scope) x

  abbrev Sorts : TypedExpr → List GenericSort → Type 0
  Sorts e scope = IsSorted typed params scope e

  abbrev of_sort : {e : TypedExpr} {x : Expr} {old new : List CheckAt} {scope : List GenericSort}
      → Translates typed set own e x old new → Sorts e scope
      → Within ms own.args (mentions e) → sort_of set.types fs x (map G scope) ≡ Some (G e.of)
  of_sort t h w = exprs.sorted_expr typed set ms fs known own params own_types t h w

  mutual
    -- the sites of an expression, in order
    pub lists_expr : {e : TypedExpr} {x : Expr} {old new : List CheckAt} {scope : List GenericSort}
        → Translates typed set own e x old new → Sorts e scope
        → Within ms own.args (mentions e) → Lists set fs own (At scope x) (site_offsets e) old new
    lists_expr {e} {old = old} {scope = scope} (of_int n is) h w = lists_same set fs own [] _ [] _ old old
        (sites_int set.types fs (map G scope) n) (offsets_int e n is) (lists_none set fs own old)
    lists_expr {e} {old = old} {scope = scope} (of_bool b is) h w = lists_same set fs own [] _ [] _ old old
        (sites_bool set.types fs (map G scope) b) (offsets_bool e b is) (lists_none set fs own old)
    lists_expr {e} {old = old} {scope = scope} (of_local i is) h w = lists_same set fs own [] _ [] _ old old
        (sites_var set.types fs (map G scope) i) (offsets_local e i is) (lists_none set fs own old)
    lists_expr {e} {old = old} {new = new} {scope = scope} (of_call {es = es} {xs = xs} {mid = mid} f sorts is all) h w
        =
        let c = exprs.at_form typed set ms fs known own params own_types e (kind.Call f sorts es) _ h is
        (kind.outs-Call f sorts es) in
        let inside = in_call ms own.args e f sorts es is w in
        let there = inside (function_at f sorts)
        (Contains-append_left (function_at f sorts ∷ []) (types_of sorts ++ joined (map mentions es))
        (function_at f sorts) (Contains-push [] (function_at f sorts))) in
        let later = in_right ms own.args (types_of sorts) (joined (map mentions es))
        (in_right ms own.args (function_at f sorts ∷ []) (types_of sorts ++ joined (map mentions es))
        inside) in
        let g = known.functions f c.d (map (put own.args) sorts) c.declared there in
        lists_same set fs own _ _ _ _ old new (sites_call set.types fs (map G scope) (callee typed set own f sorts) xs _
        _)
        (offsets_call e f sorts es is)
        (lists_append set fs own (joined (map (At scope) xs)) _ (joined (map site_offsets es)) _ old mid new
        (lists_all all c.args_sorted later) (call_sites typed set ms fs own grouped e f c.d sorts mid g.g c.declared
        there g.found))
    lists_expr {e} {old = old} {new = new} {scope = scope} (of_construct {es = es} {xs = xs} c sorts is all) h w =
        let f = exprs.at_form typed set ms fs known own params own_types e (kind.Construct c sorts es) _ h is
        (kind.outs-Construct c sorts es) in
        let later = in_right ms own.args (types_of sorts) (joined (map mentions es))
        (in_construct ms own.args e c sorts es is w) in
        lists_same set fs own _ _ _ _ old new (sites_construct set.types fs (map G scope) _ xs)
        (offsets_construct e c sorts es is)
        (lists_all all f.args_sorted later)
    lists_expr {e} {old = old} {new = new} {scope = scope} (of_field {base = base} {x = x} j is t) h w =
        let f = exprs.at_form typed set ms fs known own params own_types e (kind.Field base j) _ h is
        (kind.outs-Field base j) in
        lists_same set fs own _ _ _ _ old new (sites_field set.types fs (map G scope) x j) (offsets_field e base j is)
        (lists_expr t f.base_sorted (in_field ms own.args e base j is w))
    lists_expr {e} {old = old} {new = new} {scope = scope} (of_unary {a = a} {x = x} op is t) h w =
        let f = exprs.at_form typed set ms fs known own params own_types e (kind.Unary op a) _ h is
        (kind.outs-Unary op a) in
        lists_same set fs own _ _ _ _ old new (sites_unary set.types fs (map G scope) _ x) (offsets_unary e op a is)
        (lists_expr t f.0 (in_unary ms own.args e a op is w))
    lists_expr {e} {old = old} {new = new} {scope = scope}
        (of_binary {a = a} {b = b} {x = x} {y = y} {mid = mid} {new = last} op is ta tb) h w =
        let f = exprs.at_form typed set ms fs known own params own_types e (kind.Binary op a b) _ h is
        (kind.outs-Binary op a b) in
        let inside = in_binary ms own.args e a b op is w in
        lists_same set fs own _ _ _ _ old new (sites_binary set.types fs (map G scope) op x y _)
        (offsets_binary e op a b is)
        (lists_append set fs own (At scope x ++ At scope y) _ (site_offsets a ++ site_offsets b) _ old last new
        (lists_append set fs own (At scope x) (At scope y) (site_offsets a) (site_offsets b) old mid last
        (lists_expr ta f.left (in_left ms own.args (mentions a) (mentions b) inside))
        (lists_expr tb f.right (in_right ms own.args (mentions a) (mentions b) inside)))
        (operator typed set fs own e op last))
    lists_expr {e} {old = old} {new = new} {scope = scope}
        (of_if {c = c} {a = a} {b = b} {x = x} {y = y} {z = z} {mid = mid} {end = last} is tc ta tb) h w =
        let f = exprs.at_form typed set ms fs known own params own_types e (kind.If c a b) _ h is
        (kind.outs-If c a b) in
        let inside = in_if ms own.args e c a b is w in
        let first = in_left ms own.args (mentions c ++ mentions a) (mentions b) inside in
        lists_same set fs own _ _ _ _ old new (sites_if set.types fs (map G scope) x y z) (offsets_if e c a b is)
        (lists_append set fs own (At scope x ++ At scope y) (At scope z) (site_offsets c ++ site_offsets a)
        (site_offsets b) old last new
        (lists_append set fs own (At scope x) (At scope y) (site_offsets c) (site_offsets a) old mid last
        (lists_expr tc f.test (in_left ms own.args (mentions c) (mentions a) first))
        (lists_expr ta f.left (in_right ms own.args (mentions c) (mentions a) first)))
        (lists_expr tb f.right (in_right ms own.args (mentions c ++ mentions a) (mentions b) inside)))
    lists_expr {e} {old = old} {new = new} {scope = scope}
        (of_match {m = m} {cs = cs} {x = x} {ys = ys} {mid = mid} covered is tm exact tc) h w =
        let f = exprs.at_form typed set ms fs known own params own_types e (kind.Match m cs) _ h is
        (kind.outs-Match m cs) in
        let inside = in_match ms own.args e m cs is w in
        let within = in_left ms own.args (mentions m) (joined (map case_mentions cs)) inside in
        let sc = map G scope in
        let arms = with_case_sites set.types fs ys in
        let n = number_if (not covered) mid in
        let after = more_if (not covered) (check_at typed set own check.Match e) mid in
        let at_value : at_sort (sort_of set.types fs x sc)
        (λ s. matching s (unguarded arms) n ∷ sites_of_cases arms s sc) ≡ matching (G m.of) (unguarded arms) n
        ∷ sites_of_cases arms (G m.of) sc =
        ap (λ o. at_sort o (λ s. matching s (unguarded arms) n ∷ sites_of_cases arms s sc))
        (of_sort tm f.matched within) in
        lists_same set fs own _ _ _ _ old new (sites_match set.types fs sc x ys n ∙ ap (λ l. At scope x ++ l) at_value)
        (offsets_match e m cs is)
        (lists_append set fs own (At scope x) (matching (G m.of) (unguarded arms) n ∷ sites_of_cases arms (G m.of) sc)
        (site_offsets m)
        ((e.source, e.at) ∷ joined (map offsets_in_case cs)) old mid new
        (lists_expr tm f.matched within)
        (lists_append set fs own (matching (G m.of) (unguarded arms) n ∷ []) (sites_of_cases arms (G m.of) sc)
        ((e.source, e.at) ∷ [])
        (joined (map offsets_in_case cs)) mid after new
        (match_site typed set fs own e m cs (unguarded arms) mid covered (covered_patterns typed set fs own tc) exact)
        (lists_cases tc refl f.cases_sorted (in_right ms own.args (mentions m) (joined (map case_mentions cs))
        inside) (exprs.sort_types typed set ms fs known own params own_types m within))))
    lists_expr {e} {old = old} {new = new} {scope = scope}
        (of_val {bound = a} {rest = b} {x = x} {y = y} {mid = mid} is ta tb) h w =
        let f = exprs.at_form typed set ms fs known own params own_types e (kind.Val a b) _ h is (kind.outs-Val a b) in
        let inside = in_val ms own.args e a b is w in
        let first = in_left ms own.args (mentions a) (mentions b) inside in
        let sc = map G scope in
        let at_value = ap (λ o. at_sort o (λ s. sites set.types fs y (sc ++ s ∷ [])))
        (of_sort ta f.bound_sorted first) in
        let deeper = ap (λ l. sites set.types fs y l) (sym (map_push G scope a.of)) in
        lists_same set fs own _ _ _ _ old new (sites_val set.types fs sc x y ∙ ap (λ l. At scope x ++ l)
        (at_value ∙ deeper))
        (offsets_val e a b is)
        (lists_append set fs own (At scope x) (At (scope ++ a.of ∷ []) y) (site_offsets a) (site_offsets b) old mid new
        (lists_expr ta f.bound_sorted first) (lists_expr tb f.rest_sorted
        (in_right ms own.args (mentions a) (mentions b) inside)))
    lists_expr {e} {old = old} {new = new} {scope = scope}
        (of_assert {c = a} {rest = b} {x = x} {y = y} {mid = mid} is ta tb) h w =
        let f = exprs.at_form typed set ms fs known own params own_types e (kind.Assert a b) _ h is
        (kind.outs-Assert a b) in
        let inside = in_assert ms own.args e a b is w in
        let site = assertion (record { 0 = length mid }) in
        let after = mid ++ check_at typed set own check.Assertion e ∷ [] in
        lists_same set fs own _ _ _ _ old new (sites_assert set.types fs (map G scope) _ x y) (offsets_assert e a b is)
        (lists_append set fs own (At scope x) (site ∷ At scope y) (site_offsets a) ((e.source, e.at) ∷ site_offsets b)
        old mid new
        (lists_expr ta f.test (in_left ms own.args (mentions a) (mentions b) inside))
        (lists_append set fs own (site ∷ []) (At scope y) ((e.source, e.at) ∷ []) (site_offsets b) mid after new
        (one_if set fs own site check.Assertion true (check_at typed set own check.Assertion e) mid refl
        refl refl refl refl tt)
        (lists_expr tb f.rest_sorted (in_right ms own.args (mentions a) (mentions b) inside))))

    pub lists_all : {es : List TypedExpr} {xs : List Expr} {old new : List CheckAt} {scope ss : List GenericSort}
        → TranslateAll typed set own es xs old new
        → AreSorted typed params scope ss es → Within ms own.args (joined (map mentions es))
        → Lists set fs own (joined (map (At scope) xs)) (joined (map site_offsets es)) old new
    lists_all {old = old} no_exprs h w = lists_none set fs own old
    lists_all {old = old} {new = new} {scope = scope} (one_more {es = es} {e = e} {xs = xs} {x = x} {mid = mid} before
        t) h w =
        let r = split typed params scope es e h in
        let parts = in_parts ms own.args mentions es e w in
        lists_same set fs own _ _ _ _ old new (ap joined (map_push (At scope) xs x) ∙ joined_push (map (At scope) xs)
        (At scope x))
        (ap joined (map_push site_offsets es e) ∙ joined_push (map site_offsets es) (site_offsets e))
        (lists_append set fs own (joined (map (At scope) xs)) (At scope x) (joined (map site_offsets es))
        (site_offsets e) old mid new
        (lists_all before r.earlier parts.0) (lists_expr t r.last parts.1))

    lists_guard : {g : Option TypedExpr} {x : Option Expr} {old new : List CheckAt} {scope : List GenericSort}
        → TranslateGuard typed set own g x old new
        → IsSortedGuard typed params scope g → Within ms own.args (guard_mentions g)
        → Lists set fs own (guard_in set fs x (map G scope)) (offsets_of_guard g) old new
    lists_guard {old = old} no_guard h w = lists_none set fs own old
    lists_guard (one_guard made) (guarded h is) w = lists_expr made h w

    lists_case : {s of at : GenericSort} {c : TypedCase} {y : Case} {old new : List CheckAt} {scope : List GenericSort}
        → TranslateCase typed set own at c y old new
        → at ≡ put own.args s → OneCase typed params scope s of c → Within ms own.args (case_mentions c)
        → HasTypes ms (put own.args s)
        → Lists set fs own (sites_in_case set.types fs y (G s) (map G scope)) (offsets_in_case c) old new
    lists_case {s} {at = at} {old = old} {new = new} {scope = scope}
        (one_case c {guard = guard} {body = body} {mid = mid} tg tb) is o w types =
        let parts = in_case ms own.args c w in
        let sc = map G scope in
        let p = pattern_at typed set.roots (out-TypedCase c).pattern at in
        let binds = ap (λ (z : GenericSort). bound_sorts set.types.ctors
        (pattern_at typed set.roots (out-TypedCase c).pattern z) (G s)) is
        ∙ pattern_binds typed set ms fs known own.args o.binds types in
        let deeper = sym (map-append G scope o.bound) in
        lists_same set fs own _ _ _ _ old new
        (case_is set fs sc p guard body (G s) ∙ ap (λ l. with_bound l
        (λ bound. guard_in set fs guard (sc ++ bound) ++ sites set.types fs body (sc ++ bound))) binds
        ∙ ap (λ l. guard_in set fs guard l ++ sites set.types fs body l) deeper)
        (offsets_case c)
        (lists_append set fs own (guard_in set fs guard (map G (scope ++ o.bound))) (At (scope ++ o.bound) body)
        (offsets_of_guard (out-TypedCase c).guard) (site_offsets (out-TypedCase c).body) old mid new
        (lists_guard tg o.guard parts.0) (lists_expr tb o.body parts.1))

    lists_cases : {s of at : GenericSort} {cs : List TypedCase} {ys : List Case} {old new : List CheckAt}
        {scope : List GenericSort} → TranslateCases typed set own at cs ys old new
        → at ≡ put own.args s → AreSortedCases typed params scope s of cs
        → Within ms own.args (joined (map case_mentions cs)) → HasTypes ms (put own.args s)
        → Lists set fs own (sites_of_cases (with_case_sites set.types fs ys) (G s) (map G scope))
        (joined (map offsets_in_case cs)) old new
    lists_cases {old = old} no_cases is h w types = lists_none set fs own old
    lists_cases {s} {old = old} {new = new} {scope = scope}
        (more_cases {cases = cs} {c = c} {ys = ys} {y = y} {mid = mid} before one) is h w types =
        let r = split_cases typed params scope cs c h in
        let parts = in_parts ms own.args case_mentions cs c w in
        let sc = map G scope in
        let pair = case_beside set.types fs in
        lists_same set fs own _ _ _ _ old new
        (ap (λ l. sites_of_cases l (G s) sc) (map_push pair ys y) ∙ of_cases_append (map pair ys) (pair y ∷ []) (G s) sc
        ∙ ap (λ l. sites_of_cases (map pair ys) (G s) sc ++ l) (append-nil (sites_in_case set.types fs y (G s) sc)))
        (ap joined (map_push offsets_in_case cs c) ∙ joined_push (map offsets_in_case cs) (offsets_in_case c))
        (lists_append set fs own (sites_of_cases (map pair ys) (G s) sc) (sites_in_case set.types fs y (G s) sc)
        (joined (map offsets_in_case cs)) (offsets_in_case c) old mid new
        (lists_cases before is r.0 parts.0 types) (lists_case one is r.1 parts.1 types))
