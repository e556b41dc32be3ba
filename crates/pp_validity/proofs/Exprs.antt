-- A translated expression of a well-sorted expression has the translated sort.
use Rattle.std.proofs.Common.{◌≡◌, ⊎_elim, ℕ, true, ◌&&◌, if◌then◌else◌, List, [], ◌∷◌, ◌++◌, map, refl, sym, ap, ◌∙◌}
use Rattle.std.proofs.Common.{subst, eq-eqb}
use Rattle.std.specs.Prelude.{Option, Some, None, slice_get, Contains}
use Rattle.std.specs.Option.{option_map}
use Rattle.std.proofs.lemmas.List.{length-map, map-append, map_push}
use Rattle.std.proofs.lemmas.List.Elements.{Contains-get_or, Contains-push, Contains-push_cases, Contains-append_left}
use Rattle.std.proofs.lemmas.List.Elements.{Contains-append_right}
use Rattle.std.proofs.lemmas.Option.{slice_get-map, slice_get_within, get_or_from_slice_get}
use Rattle.pp_list.specs.Joined.{joined}
use Rattle.pp_instances.proofs.Kept.{nothing_in}
use Rattle.pp_instances.specs.Same.{place_of}
use Rattle.pp_instances.specs.Uses.{case_mentions, function_at, guard_mentions, mentions, root_at, types_of}
use Rattle.pp_instances.specs.declared.member.Member.{Member}
use Rattle.pp_prog.specs.ExprSorts.{Arm, Sorting, a_bool, a_tree, alike, arm_sort, arm_step, arm_with, arms_like}
use Rattle.pp_prog.specs.ExprSorts.{arms_sort, binary_sort, call_sort, case_sorts, field_of_ctor, field_of_data}
use Rattle.pp_prog.specs.ExprSorts.{field_sort, guarded_sort, match_sorts, sort_if, sort_of, sort_step, then_sort}
use Rattle.pp_prog.specs.ExprSorts.{tree_sort, unary_sort}
use Rattle.pp_prog.specs.PatternSorts.{bound_sorts}
use Rattle.pp_prog.specs.Sorts.{param_sorts as sorts_of_params}
use Rattle.pp_prog.specs.declared.expr.Case.{Case}
use Rattle.pp_prog.specs.declared.expr.Expr.{Expr}
use Rattle.pp_prog.specs.declared.expr.Expr.TheFolds.{fold-roll-Case}
use Rattle.pp_prog.specs.declared.expr.Function.{Function}
use Rattle.pp_prog.specs.declared.expr.Pattern.{Pattern}
use Rattle.pp_prog.specs.declared.sort.Sort.{Sort}
use Rattle.pp_prog.specs.declared.sort.Sort.TheVariants as of_prog
use Rattle.pp_prog.specs.declared.types.Ctor.{Ctor}
use Rattle.pp_prog.specs.declared.types.Datatype.{Datatype}
use Rattle.pp_prog.specs.declared.types.TypeTable.{TypeTable}
use Rattle.pp_translation.specs.Numbered.{Translates, TranslateAll, TranslateGuard, TranslateCase, TranslateCases}
use Rattle.pp_translation.specs.Numbered.{of_int, of_bool, of_local, of_call, of_construct, of_field, of_unary}
use Rattle.pp_translation.specs.Numbered.{of_binary, of_if, of_match, of_val, of_assert, no_exprs, one_more, no_guard}
use Rattle.pp_translation.specs.Numbered.{one_guard, one_case, no_cases, more_cases}
use Rattle.pp_translation.specs.Numbers.{ctor_at, ctor_number, data_number, function_number, program_sort, sort_at}
use Rattle.pp_translation.specs.Patterns.{pattern_at}
use Rattle.pp_translation.specs.Setting.{Setting}
use Rattle.pp_translation.specs.declared.frame.CheckAt.{CheckAt}
use Rattle.pp_translation.specs.declared.frame.Frame.{Frame}
use Rattle.pp_typed.specs.Put.{put}
use Rattle.pp_typed.specs.Sorted.{Binds, IsSorted, AreSorted, IsSortedGuard, AreSortedCases, none_sorted, more_sorted}
use Rattle.pp_typed.specs.Sorted.{one_guard as guarded, no_cases as no_sorted, more_cases as more_sorted_cases}
use Rattle.pp_typed.specs.Sorted.{param_sorts}
use Rattle.pp_typed.specs.declared.expr.TypedCase.{TypedCase}
use Rattle.pp_typed.specs.declared.expr.TypedExpr.{TypedExpr}
use Rattle.pp_typed.specs.declared.expr.TypedKind.{TypedKind}
use Rattle.pp_typed.specs.declared.expr.TypedKind.TheVariants as kind
use Rattle.pp_typed.specs.declared.expr.TypedKind.TheViews.{out-TypedKind, out-TypedCase}
use Rattle.pp_typed.specs.declared.sort.GenericSort.{GenericSort}
use Rattle.pp_typed.specs.declared.sort.GenericSort.TheVariants as sort
use Rattle.pp_typed.specs.declared.typed.Typed.{Typed}
use Rattle.pp_typed_forms.proofs.Forms.{IsOfForm, Layer, form}
use Rattle.pp_prog.proofs.SortForms.{Sorted, sort_of_int, sort_of_bool, sort_of_var, sort_of_unary, sort_of_binary}
use Rattle.pp_prog.proofs.SortForms.{sort_of_construct, sort_of_call, sort_of_field, sort_of_if, sort_of_match}
use Rattle.pp_prog.proofs.SortForms.{sort_of_val, sort_of_assert}
use Rattle.pp_prog.proofs.ValueSorts.{its_sort}
use Rattle.pp_validity.proofs.Ground.{put_put, puts_puts, sort_at_int, sort_at_bool, sort_at_root}
use Rattle.pp_validity.proofs.Known.{HasTypes, IsKnown}
use Rattle.pp_validity.proofs.Operators.{alike_self, binary_right, unary_right}
use Rattle.pp_validity.proofs.Patterns.{grounds, map_map, mapped, pattern_binds, put_twice, root_there}
use Rattle.pp_validity.proofs.Types.{types_put}
use Rattle.pp_validity.proofs.Within.{Within, in_left, in_right, in_sort, in_call, in_construct, in_field, in_unary}
use Rattle.pp_validity.proofs.Within.{in_binary, in_if, in_match, in_val, in_assert, in_parts, in_case}

-- lists that are sorted, but for the last, and the last
module _ (typed : Typed) (params : ℕ) (scope : List GenericSort) where
  pub record Split (es : List TypedExpr) (e : TypedExpr) (ss : List GenericSort) : Type 0 where
    pub before : List GenericSort
    pub is : ss ≡ before ++ e.of ∷ []
    pub earlier : AreSorted typed params scope before es
    pub last : IsSorted typed params scope e

  pub split : (es : List TypedExpr) (e : TypedExpr) {ss : List GenericSort}
      → AreSorted typed params scope ss (es ++ e ∷ []) → Split es e ss
  split [] e (more_sorted {s = s} h is none_sorted) = record
      { before = []; is = ap (λ z. z ∷ []) (sym is); earlier = none_sorted; last = h }
  split (d ∷ es) e (more_sorted {s = s} h is rest) =
      let r = split es e rest in
      record {
        before = s ∷ r.before;
        is = ap (λ l. s ∷ l) r.is;
        earlier = more_sorted h is r.earlier;
        last =
            r.last;
      }

  pub record OneCase (s of : GenericSort) (c : TypedCase) : Type 0 where
    pub bound : List GenericSort
    pub binds : Binds typed s (out-TypedCase c).pattern bound
    pub guard : IsSortedGuard typed params (scope ++ bound) (out-TypedCase c).guard
    pub body : IsSorted typed params (scope ++ bound) (out-TypedCase c).body
    pub body_is : (out-TypedCase c).body.of ≡ of

  pub split_cases : (cs : List TypedCase) (c : TypedCase) {s of : GenericSort}
      → AreSortedCases typed params scope s of (cs ++ c ∷ [])
      → AreSortedCases typed params scope s of cs × OneCase s of c
  split_cases [] c (more_sorted_cases {bound = bound} binds guard body is no_sorted) =
      (no_sorted, record { bound = bound; binds = binds; guard = guard; body = body; body_is = is })
  split_cases (d ∷ cs) c (more_sorted_cases binds guard body is rest) =
      let r = split_cases cs c rest in (more_sorted_cases binds guard body is r.0, r.1)

match_same : (ts : List Sort) → match_sorts (map (λ t. Some t) ts) ts ≡ true
match_same [] = refl
match_same (t ∷ ts) = ap (λ b. b && match_sorts (map (λ t. Some t) ts) ts) (its_sort t) ∙ match_same ts

like_all : (types : TypeTable) (functions : List Function) (t s : Sort) (sc : List Sort) (arms : List Arm)
    → ((a : Arm) → Contains arms a → arm_sort types functions a s sc ≡ Some t)
    → arms_like types functions (Some t) arms s sc ≡ Some t
like_all types functions t s sc [] h = refl
like_all types functions t s sc (a ∷ arms) h =
    ap (λ o. arms_like types functions (alike (Some t) o) arms s sc)
    (h a (Contains-append_left (a ∷ []) arms a (Contains-push [] a)))
    ∙ ap (λ o. arms_like types functions o arms s sc) (alike_self t)
    ∙ like_all types functions t s sc arms (λ b c. h b (Contains-append_right (a ∷ []) arms b c))

module _ (typed : Typed) (set : Setting) (ms : List Member) (fs : List Function) (known : IsKnown typed set ms fs)
    (own : Frame) (params : ℕ)
    (own_types : (s : GenericSort) → Contains own.args s → HasTypes ms s) where
  abbrev pub G : GenericSort → Sort
  G s = sort_at set.roots own.args s

  abbrev pub some : GenericSort → Option Sort
  some s = Some (G s)

  abbrev pub Has : Expr → List GenericSort → Option Sort
  Has x scope = Sorted set.types fs (map G scope) x

  int : G sort.Int ≡ of_prog.Int
  int = sort_at_int set.roots own.args

  bool : G sort.Bool ≡ of_prog.Bool
  bool = sort_at_bool set.roots own.args

  pub at_form : {scope : List GenericSort} (e : TypedExpr) (k : TypedKind) (l : Layer) → IsSorted typed params scope e
      → e.kind ≡ k → out-TypedKind k ≡ l
      → IsOfForm typed params scope e.of l
  at_form {scope} e k l h is o = subst (IsOfForm typed params scope e.of) (ap out-TypedKind is ∙ o)
      (form typed params h)

  pub sort_types : (e : TypedExpr) → Within ms own.args (mentions e) → HasTypes ms (put own.args e.of)
  sort_types e w = types_put ms own.args own_types e.of (in_sort ms own.args e w)

  -- a call has the sort of the function's result
  called : (g : Function) (xs : List (Option Sort)) (ts : List Sort) (o : Option Function) (t : Sort) → o ≡ Some g
      → xs ≡ map (λ z. Some z) ts
      → sorts_of_params g.params ≡ ts → g.result ≡ t → call_sort o xs ≡ Some t
  called g xs ts o t found are params_are is =
      ap (λ z. call_sort z xs) found ∙ ap (call_sort (Some g)) (are ∙ ap (map (λ z. Some z)) (sym params_are))
      ∙ ap (λ b. sort_if b g.result) (match_same (sorts_of_params g.params)) ∙ ap Some is

  built : (k : Ctor) (xs : List (Option Sort)) (ts : List Sort) (o : Option Ctor) (t : Sort) → o ≡ Some k
      → xs ≡ map (λ z. Some z) ts
      → k.fields ≡ ts → of_prog.Tree k.of ≡ t → tree_sort o xs ≡ Some t
  built k xs ts o t found are fields is =
      ap (λ z. tree_sort z xs) found ∙ ap (tree_sort (Some k)) (are ∙ ap (map (λ z. Some z)) (sym fields))
      ∙ ap (λ b. sort_if b (of_prog.Tree k.of)) (match_same k.fields) ∙ ap Some is

  somes : (ss : List GenericSort) → map some ss ≡ map (λ z. Some z) (map G ss)
  somes ss = map_map (λ z. Some z) G ss

  test_then : (a b : Option Sort) (s : GenericSort) → a ≡ Some (G s) → s ≡ sort.Bool → a_bool a b ≡ b
  test_then a b s p q = ap (λ z. a_bool z b) (p ∙ ap Some (ap G q ∙ bool))

  both_alike : (a b : Option Sort) (s t of : GenericSort) → a ≡ some s → b ≡ some t → s ≡ of → t ≡ of
      → alike a b ≡ some of
  both_alike a b s t of p q u v =
      ap (λ z. alike z b) (p ∙ ap some u) ∙ ap (λ z. alike (some of) z) (q ∙ ap some v) ∙ alike_self (G of)

  first_then : (a : Option Sort) (s : Sort) (go : Sort → Option Sort) → a ≡ Some s → then_sort a go ≡ go s
  first_then a s go p = ap (λ z. then_sort z go) p

  -- the field of a datatype's one constructor
  field_is : (o : Option Datatype) (t : Datatype) (k : Ctor) (j : ℕ) (s : Sort) → o ≡ Some t → t.count ≡ 1
      → slice_get set.types.ctors t.first.0 ≡ Some k
      → slice_get k.fields j ≡ Some s → field_of_data set.types.ctors o j ≡ Some s
  field_is o t k j s found one first at =
      ap (λ z. field_of_data set.types.ctors z j) found
      ∙ ap (λ b. if b then field_of_ctor (slice_get set.types.ctors t.first.0) j else None) (eq-eqb t.count 1 one)
      ∙ ap (λ z. field_of_ctor z j) first ∙ at

  contains_at : (ss : List GenericSort) (j : ℕ) (s : GenericSort) → slice_get ss j ≡ Some s → Contains ss s
  contains_at ss j s h = subst (λ (z : GenericSort). Contains ss z) (get_or_from_slice_get ss j s s h)
      (Contains-get_or ss j s (slice_get_within ss j s h))

  abbrev Filled : List Case → Type 0
  Filled ys = (y : Case) × (rest : List Case) × (ys ≡ y ∷ rest)

  filled : (ys : List Case) (y : Case) → Filled (ys ++ y ∷ [])
  filled [] y = (y, [], refl)
  filled (z ∷ ys) y = (z, ys ++ y ∷ [], refl)

  some_cases : {s : GenericSort} {cs rest : List TypedCase} {c : TypedCase} {ys : List Case} {old new : List CheckAt}
      → TranslateCases typed set own s cs ys old new
      → cs ≡ c ∷ rest → Filled ys
  some_cases no_cases h = cc
  some_cases (more_cases {ys = ys} {y = y} before one) h = filled ys y

  arms_all : (scope : List GenericSort) (s t : Sort) (ys : List Case) → Filled ys
      → ((y : Case) → Contains ys y → arm_sort set.types fs (case_sorts set.types fs y) s (map G scope) ≡ Some t)
      → arms_sort set.types fs (map (case_sorts set.types fs) ys) s (map G scope) ≡ Some t
  arms_all scope s t [] f h = let e : [] ≡ f.0 ∷ f.1 = f.2 in cc
  arms_all scope s t (y ∷ ys) f h =
      ap (λ o. arms_like set.types fs o (map (case_sorts set.types fs) ys) s (map G scope))
      (h y (Contains-append_left (y ∷ []) ys y (Contains-push [] y)))
      ∙ like_all set.types fs t s (map G scope) (map (case_sorts set.types fs) ys)
      (mapped (case_sorts set.types fs) ys (λ a. arm_sort set.types fs a s (map G scope) ≡ Some t)
      (λ z c. h z (Contains-append_right (y ∷ []) ys z c)))

  -- a case, by its parts
  arm_is : (p : Pattern) (guard : Option Expr) (body : Expr)
      → case_sorts set.types fs (record { pattern = p; guard = guard; body = body }) ≡ record
      { pattern = p; guard = option_map (sort_of set.types fs) guard; body = sort_of set.types fs body }
  arm_is p None body = fold-roll-Case Sorting Arm (sort_step set.types fs) arm_step
      (record { pattern = p; guard = None; body = body })
  arm_is p (Some g) body = fold-roll-Case Sorting Arm (sort_step set.types fs) arm_step
      (record { pattern = p; guard = Some g; body = body })

  mutual
    -- the expression of the program has the sort that the typed expression is of
    pub sorted_expr : {e : TypedExpr} {x : Expr} {old new : List CheckAt} {scope : List GenericSort}
        → Translates typed set own e x old new → IsSorted typed params scope e
        → Within ms own.args (mentions e) → Has x scope ≡ some e.of
    sorted_expr {e} {scope = scope} (of_int n is) h w =
        let f = at_form e (kind.Int n) _ h is (kind.outs-Int n) in
        sort_of_int set.types fs (map G scope) n ∙ ap (λ b. sort_if b of_prog.Int) f.1 ∙ ap Some (sym (ap G f.0 ∙ int))
    sorted_expr {e} {scope = scope} (of_bool b is) h w =
        let f = at_form e (kind.Bool b) _ h is (kind.outs-Bool b) in
        sort_of_bool set.types fs (map G scope) b ∙ ap Some (sym (ap G f ∙ bool))
    sorted_expr {e} {scope = scope} (of_local i is) h w =
        let f = at_form e (kind.Local i) _ h is (kind.outs-Local i) in
        sort_of_var set.types fs (map G scope) i ∙ slice_get-map G scope i ∙ ap (option_map G) f
    sorted_expr {e} {scope = scope} (of_call {es = es} {xs = xs} f sorts is all) h w =
        let c = at_form e (kind.Call f sorts es) _ h is (kind.outs-Call f sorts es) in
        let inside = in_call ms own.args e f sorts es is w in
        let there = inside (function_at f sorts)
        (Contains-append_left (function_at f sorts ∷ []) (types_of sorts ++ joined (map mentions es))
        (function_at f sorts) (Contains-push [] (function_at f sorts))) in
        let later = in_right ms own.args (types_of sorts) (joined (map mentions es))
        (in_right ms own.args (function_at f sorts ∷ []) (types_of sorts ++ joined (map mentions es)) inside) in
        let outer = map (put own.args) sorts in
        let g = known.functions f c.d outer c.declared there in
        let sig = known.signature f c.d c.declared in
        let twice = puts_puts own.args sorts (param_sorts c.d.params) sig.0 (sym c.all) in
        let params_are = g.params ∙ grounds typed set ms fs known own.args (param_sorts c.d.params) sorts twice in
        let result_is = g.result
        ∙ ap (program_sort set.roots) (sym (put_put own.args sorts c.d.result sig.1 (sym c.all)))
        ∙ ap G (sym c.result) in
        sort_of_call set.types fs (map G scope) (function_number set.functions f outer) xs _ _
        ∙ called g.g (map (Sorted set.types fs (map G scope)) xs) (map G (map (put sorts) (param_sorts c.d.params))) _
        (G e.of) g.found
        (sorted_all all c.args_sorted later ∙ somes (map (put sorts) (param_sorts c.d.params))) params_are result_is
    sorted_expr {e} {scope = scope} (of_construct {es = es} {xs = xs} c sorts is all) h w =
        let f = at_form e (kind.Construct c sorts es) _ h is (kind.outs-Construct c sorts es) in
        let later = in_right ms own.args (types_of sorts) (joined (map mentions es))
        (in_construct ms own.args e c sorts es is w) in
        let outer = map (put own.args) sorts in
        let there = root_there typed set ms fs known own.args e.of f.k.root sorts f.result (sort_types e w) in
        let k = ctor_at typed set.roots (place_of set.roots (root_at f.k.root outer)) outer f.k in
        let twice = puts_puts own.args sorts f.k.fields (known.owner c f.k f.declared).2
        (sym (known.whole f.k.root (known.owner c f.k f.declared).0 outer (known.owner c f.k f.declared).1 there)
        ∙ length-map sorts (put own.args)) in
        sort_of_construct set.types fs (map G scope) (ctor_number typed.ctors set.roots c outer) xs
        ∙ built k (map (Sorted set.types fs (map G scope)) xs) (map G (map (put sorts) f.k.fields)) _ (G e.of)
        (known.ctors c f.k outer f.declared there)
        (sorted_all all f.args_sorted later ∙ somes (map (put sorts) f.k.fields))
        (grounds typed set ms fs known own.args f.k.fields sorts twice)
        (sym (ap G f.result ∙ sort_at_root set.roots own.args f.k.root sorts))
    sorted_expr {e} {scope = scope} (of_field {base = base} {x = x} j is t) h w =
        let f = at_form e (kind.Field base j) _ h is (kind.outs-Field base j) in
        let inside = in_field ms own.args e base j is w in
        let outer = map (put own.args) f.sorts in
        let there = root_there typed set ms fs known own.args base.of f.k.root f.sorts f.base_is
        (sort_types base inside) in
        let o = known.only f.k outer f.only there in
        let root = data_number set.roots f.k.root outer in
        let has = sorted_expr t f.base_sorted inside
        ∙ ap Some (ap G f.base_is ∙ sort_at_root set.roots own.args f.k.root f.sorts) in
        sort_of_field set.types fs (map G scope) x j ∙ ap (λ z. a_tree z (λ d. field_sort set.types fs d j)) has
        ∙ field_is (slice_get set.types.datatypes root.0) o.t (ctor_at typed set.roots root.0 outer f.k) j (G e.of)
        o.found o.one o.first
        (slice_get-map (sort_at set.roots outer) f.k.fields j ∙ ap (option_map (sort_at set.roots outer)) f.declared
        ∙ ap Some (ap (program_sort set.roots) (sym (put_twice typed set ms fs known own.args o.c f.k f.sorts o.declared
        there f.s (contains_at f.k.fields j f.s f.declared))) ∙ ap G (sym f.result)))
    sorted_expr {e} {scope = scope} (of_unary {a = a} {x = x} op is t) h w =
        let f = at_form e (kind.Unary op a) _ h is (kind.outs-Unary op a) in
        sort_of_unary set.types fs (map G scope) op x
        ∙ ap (unary_sort op) (sorted_expr t f.0 (in_unary ms own.args e a op is w))
        ∙ unary_right G int bool op a.of e.of f.1 f.2
    sorted_expr {e} {scope = scope} (of_binary {a = a} {b = b} {x = x} {y = y} op is ta tb) h w =
        let f = at_form e (kind.Binary op a b) _ h is (kind.outs-Binary op a b) in
        let inside = in_binary ms own.args e a b op is w in
        let left = sorted_expr ta f.left (in_left ms own.args (mentions a) (mentions b) inside) in
        let right = sorted_expr tb f.right (in_right ms own.args (mentions a) (mentions b) inside) in
        sort_of_binary set.types fs (map G scope) op x y _
        ∙ ap (λ z. binary_sort op z (Has y scope)) left
        ∙ ap (λ z. binary_sort op (some a.of) z) right ∙ binary_right G int bool op a.of b.of e.of f.operates
    sorted_expr {e} {scope = scope} (of_if {c = c} {a = a} {b = b} {x = x} {y = y} {z = z} is tc ta tb) h w =
        let f = at_form e (kind.If c a b) _ h is (kind.outs-If c a b) in
        let inside = in_if ms own.args e c a b is w in
        let first = in_left ms own.args (mentions c ++ mentions a) (mentions b) inside in
        let test = sorted_expr tc f.test (in_left ms own.args (mentions c) (mentions a) first) in
        let left = sorted_expr ta f.left (in_right ms own.args (mentions c) (mentions a) first) in
        let right = sorted_expr tb f.right (in_right ms own.args (mentions c ++ mentions a) (mentions b) inside) in
        sort_of_if set.types fs (map G scope) x y z ∙ test_then (Has x scope) (alike (Has y scope) (Has z scope)) c.of
        test f.is_bool
        ∙ both_alike (Has y scope) (Has z scope) a.of b.of e.of left right f.left_is f.right_is
    sorted_expr {e} {scope = scope} (of_match {m = m} {cs = cs} {x = x} {ys = ys} covered is tm exact tc) h w =
        let f = at_form e (kind.Match m cs) _ h is (kind.outs-Match m cs) in
        let inside = in_match ms own.args e m cs is w in
        let within = in_left ms own.args (mentions m) (joined (map case_mentions cs)) inside in
        let value = sorted_expr tm f.matched within in
        let each = sorted_cases tc refl f.cases_sorted
        (in_right ms own.args (mentions m) (joined (map case_mentions cs)) inside) (sort_types m within) in
        sort_of_match set.types fs (map G scope) x ys _
        ∙ first_then (Has x scope) (G m.of) (λ s. arms_sort set.types fs (map (case_sorts set.types fs) ys) s
        (map G scope)) value
        ∙ arms_all scope (G m.of) (G e.of) ys (some_cases tc f.some) each
    sorted_expr {e} {scope = scope} (of_val {bound = a} {rest = b} {x = x} {y = y} is ta tb) h w =
        let f = at_form e (kind.Val a b) _ h is (kind.outs-Val a b) in
        let inside = in_val ms own.args e a b is w in
        let first = sorted_expr ta f.bound_sorted (in_left ms own.args (mentions a) (mentions b) inside) in
        let rest = sorted_expr tb f.rest_sorted (in_right ms own.args (mentions a) (mentions b) inside) in
        sort_of_val set.types fs (map G scope) x y ∙ first_then (Has x scope) (G a.of)
        (λ s. sort_of set.types fs y (map G scope ++ s ∷ [])) first
        ∙ ap (λ l. sort_of set.types fs y l) (sym (map_push G scope a.of)) ∙ rest ∙ ap some f.rest_is
    sorted_expr {e} {scope = scope} (of_assert {c = a} {rest = b} {x = x} {y = y} is ta tb) h w =
        let f = at_form e (kind.Assert a b) _ h is (kind.outs-Assert a b) in
        let inside = in_assert ms own.args e a b is w in
        let test = sorted_expr ta f.test (in_left ms own.args (mentions a) (mentions b) inside) in
        let rest = sorted_expr tb f.rest_sorted (in_right ms own.args (mentions a) (mentions b) inside) in
        sort_of_assert set.types fs (map G scope) _ x y ∙ test_then (Has x scope) (Has y scope) a.of test f.is_bool
        ∙ rest ∙ ap some f.rest_is

    pub sorted_all : {es : List TypedExpr} {xs : List Expr} {old new : List CheckAt} {scope ss : List GenericSort}
        → TranslateAll typed set own es xs old new
        → AreSorted typed params scope ss es → Within ms own.args (joined (map mentions es))
        → map (Sorted set.types fs (map G scope)) xs ≡ map some ss
    sorted_all no_exprs none_sorted w = refl
    sorted_all {scope = scope} (one_more {es = es} {e = e} {xs = xs} {x = x} before t) h w =
        let r = split typed params scope es e h in
        let parts = in_parts ms own.args mentions es e w in
        map_push (Sorted set.types fs (map G scope)) xs x
        ∙ ap (λ l. l ++ Has x scope ∷ []) (sorted_all before r.earlier parts.0)
        ∙ ap (λ z. map some r.before ++ z ∷ []) (sorted_expr t r.last parts.1)
        ∙ sym (map_push some r.before e.of) ∙ ap (map some) (sym r.is)

    sorted_guard : {g : Option TypedExpr} {x : Option Expr} {old new : List CheckAt} {scope : List GenericSort}
        → TranslateGuard typed set own g x old new
        → IsSortedGuard typed params scope g → Within ms own.args (guard_mentions g) → (t : Option Sort)
        → guarded_sort (option_map (sort_of set.types fs) x) (map G scope) t ≡ t
    sorted_guard no_guard h w t = refl
    sorted_guard {scope = scope} (one_guard {e = e} {x = x} made) (guarded h is) w t = test_then (Has x scope) t e.of
        (sorted_expr made h w) is

    sorted_case : {s of at : GenericSort} {c : TypedCase} {y : Case} {old new : List CheckAt} {scope : List GenericSort}
        → TranslateCase typed set own at c y old new
        → at ≡ put own.args s → OneCase typed params scope s of c → Within ms own.args (case_mentions c)
        → HasTypes ms (put own.args s)
        → arm_sort set.types fs (case_sorts set.types fs y) (G s) (map G scope) ≡ some of
    sorted_case {s} {at = at} {scope = scope} (one_case c {guard = guard} {body = body} tg tb) same o w types =
        let parts = in_case ms own.args c w in
        let p = pattern_at typed set.roots (out-TypedCase c).pattern at in
        let binds = ap (λ (z : GenericSort). bound_sorts set.types.ctors
        (pattern_at typed set.roots (out-TypedCase c).pattern z) (G s)) same
        ∙ pattern_binds typed set ms fs known own.args o.binds types in
        let has = sorted_expr tb o.body parts.1 in
        let both = sym (map-append G scope o.bound) in
        let made : Arm = record {
          pattern = p;
          guard = option_map (sort_of set.types fs) guard;
          body =
              sort_of set.types fs body;
        } in
        ap (λ (a : Arm). arm_sort set.types fs a (G s) (map G scope)) (arm_is p guard body)
        ∙ ap (arm_with made (map G scope)) binds
        ∙ ap (λ l. guarded_sort (option_map (sort_of set.types fs) guard) l (sort_of set.types fs body l)) both
        ∙ sorted_guard tg o.guard parts.0 (Has body (scope ++ o.bound)) ∙ has ∙ ap some o.body_is

    sorted_cases : {s of at : GenericSort} {cs : List TypedCase} {ys : List Case} {old new : List CheckAt}
        {scope : List GenericSort} → TranslateCases typed set own at cs ys old new
        → at ≡ put own.args s → AreSortedCases typed params scope s of cs
        → Within ms own.args (joined (map case_mentions cs)) → HasTypes ms (put own.args s)
        → (y : Case) → Contains ys y
        → arm_sort set.types fs (case_sorts set.types fs y) (G s) (map G scope) ≡ some of
    sorted_cases no_cases same h w types y c = absurd (nothing_in y c)
    sorted_cases {s} {of} {scope = scope} (more_cases {cases = cases} {c = c} {ys = ys} {y = z} before one) same h w
        types y has =
        let r = split_cases typed params scope cases c h in
        let parts = in_parts ms own.args case_mentions cases c w in
        ⊎_elim (λ (earlier : Contains ys y). sorted_cases before same r.0 parts.0 types y earlier)
        (λ (e : z ≡ y). subst (λ (k : Case). arm_sort set.types fs (case_sorts set.types fs k) (G s)
        (map G scope) ≡ some of) e (sorted_case one same r.1 parts.1 types))
        (Contains-push_cases ys z y has)
