-- What is found of an expression, of a function, and of all: the plain descents.
use Rattle.std.proofs.Common.{◌≡◌, ℕ, Bool, true, false, List, [], ◌∷◌, ◌++◌, map, Option, Some, None, length}
use Rattle.std.proofs.Common.{replicate, slice_get, refl, sym, ap, ◌∙◌, subst, Contains, append_assoc}
use Rattle.std.specs.Prelude.{if◌then◌else◌}
use Rattle.pp_list.proofs.With.{With, elements}
use Rattle.pp_prog.proofs.Induction.{case_under, under}
use Rattle.pp_list.specs.Joined.{joined}
use Rattle.pp_graph.proofs.Paths.{nothing}
use Rattle.pp_prog.specs.declared.expr.Case.{Case}
use Rattle.pp_prog.specs.declared.expr.Expr.{Expr}
use Rattle.pp_prog.specs.declared.expr.Expr.TheFolds.{fold-roll-Case, fold-roll-Expr, ind-Expr, map-Case, map-Expr}
use Rattle.pp_prog.specs.declared.expr.Expr.TheOpen as layer
use Rattle.pp_prog.specs.declared.expr.Expr.TheViews.{roll-Case, roll-Expr}
use Rattle.pp_prog.specs.declared.expr.Function.{Function}
use Rattle.pp_prog.specs.declared.expr.Param.{Param}
use Rattle.pp_prog.specs.declared.expr.Pattern.{Pattern}
use Rattle.pp_prog.specs.declared.id.CheckId.{CheckId}
use Rattle.pp_prog.specs.declared.id.DataId.{DataId}
use Rattle.pp_prog.specs.declared.sort.Sort.{Sort}
use Rattle.pp_prog.specs.declared.sort.Sort.TheVariants as sort
use Rattle.pp_checks.specs.Marks.{CaseDescents, Seen, case_step, descents, descents_at, descents_from, descents_in_case}
use Rattle.pp_checks.specs.Marks.{first_param, if_tree, in_all, in_cases, is_live, is_tree, is_tree_param}
use Rattle.pp_checks.specs.Marks.{marks_of, plain_descents, post_descents, pre_descents, seen, seen_step, tree_param}
use Rattle.pp_checks.specs.Plain.{BeginsWith, HasDescent, IsOfDatatype, Scope, apart, bound_by}
use Rattle.pp_checks.specs.Plain.{claim, each_in, if_written, parts_of_case, parts_of_function}
use Rattle.pp_checks.proofs.Inside.{MarksInside, apart_marked, below_match, more_marked, params_marked, pattern_marks}
use Rattle.pp_checks.proofs.Listed.{Lists, ListsIn, below_seen, call_listed, list_append}
use Rattle.pp_checks.proofs.Listed.{list_more, list_none, list_one, of_parts}
use Rattle.pp_checks.proofs.Measured.{begins_if, first_param_is}

module _ (functions : List Function) (p c : ℕ) where
  abbrev Look : Expr → Seen
  Look = seen functions p

  abbrev LookCase : Case → CaseDescents
  LookCase = descents_in_case functions p

  -- what is found of an expression are the sites in it that go down
  abbrev IsListed : Expr → Type 0
  IsListed e =
      (scope : Scope) (marks : List Bool) → MarksInside p scope marks
      → Lists functions p c ((Look e).1 marks) (scope, e)

  -- and of a case, those in its guard and its body
  abbrev AreListed : Case → Type 0
  AreListed k =
      (o : Option ℕ) (scope : Scope) (marks : List Bool) → MarksInside p scope marks
      → ListsIn functions p c (LookCase k (is_live p marks o) marks) (parts_of_case scope (below_match o) k)

  all_listed : (ys : List (With IsListed)) (scope : Scope) (marks : List Bool) → MarksInside p scope marks
      → ListsIn functions p c (in_all (map Look (elements ys)) marks) (each_in scope (elements ys))
  all_listed [] scope marks agree = list_none functions p c
  all_listed (y ∷ ys) scope marks agree =
      list_more functions p c (y.1 scope marks agree) (all_listed ys scope marks agree)

  cases_listed : (ys : List (With AreListed)) (o : Option ℕ) (scope : Scope) (marks : List Bool)
      → MarksInside p scope marks
      → ListsIn functions p c (in_cases (map LookCase (elements ys)) (is_live p marks o) marks)
      (joined (map (parts_of_case scope (below_match o)) (elements ys)))
  cases_listed [] o scope marks agree = list_none functions p c
  cases_listed (y ∷ ys) o scope marks agree =
      list_append functions p c (y.1 o scope marks agree) (cases_listed ys o scope marks agree)

  -- ---- an expression by its parts

  level : (y : layer.Expr-F (With IsListed) (With AreListed)) (scope : Scope) (marks : List Bool)
      → MarksInside p scope marks
      → Lists functions p c ((seen_step functions p (map-Expr Expr Case Seen CaseDescents Look LookCase (under y))).1
      marks) (scope, roll-Expr (under y))
  level (layer.Int n) scope marks agree =
      of_parts functions p c scope (layer.Int n) (λ g xs pre k e. (cc)) (list_none functions p c)
  level (layer.Bool b) scope marks agree =
      of_parts functions p c scope (layer.Bool b) (λ g xs pre k e. (cc)) (list_none functions p c)
  level (layer.Var i) scope marks agree =
      of_parts functions p c scope (layer.Var i) (λ g xs pre k e. (cc)) (list_none functions p c)
  level (layer.Unary op a) scope marks agree =
      of_parts functions p c scope (layer.Unary op a.0) (λ g xs pre k e. (cc))
      (list_one functions p c (a.1 scope marks agree))
  level (layer.Binary op a b check) scope marks agree =
      of_parts functions p c scope (layer.Binary op a.0 b.0 check) (λ g xs pre k e. (cc))
      (list_more functions p c (a.1 scope marks agree) (list_one functions p c (b.1 scope marks agree)))
  level (layer.Construct k args) scope marks agree =
      of_parts functions p c scope (layer.Construct k (elements args)) (λ g xs pre k e. (cc))
      (all_listed args scope marks agree)
  level (layer.Field e k) scope marks agree =
      of_parts functions p c scope (layer.Field e.0 k) (λ g xs pre k e. (cc))
      (list_one functions p c (e.1 scope marks agree))
  level (layer.If t a b) scope marks agree =
      of_parts functions p c scope (layer.If t.0 a.0 b.0) (λ g xs pre k e. (cc))
      (list_append functions p c {qs = (scope, t.0) ∷ (scope, a.0) ∷ []} {rs = (scope, b.0) ∷ []}
      (list_more functions p c (t.1 scope marks agree) (list_one functions p c (a.1 scope marks agree)))
      (list_one functions p c (b.1 scope marks agree)))
  level (layer.Match e cases check) scope marks agree =
      of_parts functions p c scope (layer.Match e.0 (elements cases) check) (λ g xs pre k e. (cc))
      (list_more functions p c (e.1 scope marks agree)
      (subst (λ b. ListsIn functions p c (in_cases (map LookCase (elements cases)) (is_live p marks (Look e.0).0) marks)
      (joined (map (parts_of_case scope b) (elements cases)))) (below_seen functions p e.0)
      (cases_listed cases (Look e.0).0 scope marks agree)))
  level (layer.Val bound rest) scope marks agree =
      of_parts functions p c scope (layer.Val bound.0 rest.0) (λ g xs pre k e. (cc))
      (list_more functions p c (bound.1 scope marks agree)
      (list_one functions p c
      (rest.1 (scope ++ apart ∷ []) (marks ++ false ∷ []) (apart_marked p scope marks agree))))
  level (layer.Assert check t rest) scope marks agree =
      of_parts functions p c scope (layer.Assert check t.0 rest.0) (λ g xs pre k e. (cc))
      (list_more functions p c (t.1 scope marks agree) (list_one functions p c (rest.1 scope marks agree)))
  level (layer.Call g args pre measure) scope marks agree =
      call_listed functions p c scope marks agree g (elements args) pre measure (all_listed args scope marks agree)

  at_level : (y : layer.Expr-F (With IsListed) (With AreListed)) → IsListed (roll-Expr (under y))
  at_level y scope marks agree =
      subst (λ (s : Seen). Lists functions p c (s.1 marks) (scope, roll-Expr (under y)))
      (sym (fold-roll-Expr Seen CaseDescents (seen_step functions p) case_step (under y)))
      (level y scope marks agree)

  -- ---- a case by its parts

  case_agrees : (pattern : Pattern) (o : Option ℕ) (scope : Scope) (marks : List Bool) → MarksInside p scope marks
      → MarksInside p (scope ++ bound_by (below_match o) pattern apart)
      (marks ++ marks_of pattern false (is_live p marks o))
  case_agrees pattern o scope marks agree =
      more_marked p o scope marks agree (bound_by (below_match o) pattern apart)
      (marks_of pattern false (is_live p marks o)) (pattern_marks (below_match o) (is_live p marks o) pattern)

  case_level : (pattern : Pattern) (guard : Option (With IsListed)) (body : With IsListed) (o : Option ℕ)
      (scope : Scope) (marks : List Bool)
      → MarksInside p scope marks
      → ListsIn functions p c (case_step (map-Case Expr Case Seen CaseDescents Look LookCase
      (case_under AreListed (record { pattern = pattern; guard = guard; body = body }))) (is_live p marks o) marks)
      (parts_of_case scope (below_match o)
      (roll-Case (case_under AreListed (record { pattern = pattern; guard = guard; body = body }))))
  case_level pattern None body o scope marks agree =
      list_one functions p c (body.1 _ _ (case_agrees pattern o scope marks agree))
  case_level pattern (Some g) body o scope marks agree =
      let agrees = case_agrees pattern o scope marks agree in
      list_more functions p c (g.1 _ _ agrees) (list_one functions p c (body.1 _ _ agrees))

  at_case : (y : layer.Case-F (With IsListed) (With AreListed)) → AreListed (roll-Case (case_under AreListed y))
  at_case y o scope marks agree =
      subst (λ (s : CaseDescents). ListsIn functions p c (s (is_live p marks o) marks)
      (parts_of_case scope (below_match o) (roll-Case (case_under AreListed y))))
      (sym (fold-roll-Case Seen CaseDescents (seen_step functions p) case_step (case_under AreListed y)))
      (case_level y.pattern y.guard y.body o scope marks agree)

  expr_listed : (e : Expr) → IsListed e
  expr_listed = ind-Expr IsListed AreListed (λ e y is. subst (λ z. IsListed (roll-Expr z)) is (at_level y))
      (λ k y is. subst (λ z. AreListed (roll-Case z)) is (at_case y))

  -- ---- a function

  exprs_listed : (es : List Expr) (scope : Scope) (marks : List Bool) → MarksInside p scope marks
      → ListsIn functions p c (in_all (map Look es) marks) (each_in scope es)
  exprs_listed [] scope marks agree = list_none functions p c
  exprs_listed (e ∷ es) scope marks agree =
      list_more functions p c (expr_listed e scope marks agree) (exprs_listed es scope marks agree)

  pre_listed : (o : Option Expr) (scope : Scope) (marks : List Bool) → MarksInside p scope marks
      → ListsIn functions p c (pre_descents functions p o marks) (each_in scope (if_written o))
  pre_listed None scope marks agree = list_none functions p c
  pre_listed (Some e) scope marks agree = list_one functions p c (expr_listed e scope marks agree)

  post_listed : (o : Option (CheckId × Expr)) (scope : Scope) (marks : List Bool) → MarksInside p scope marks
      → ListsIn functions p c (post_descents functions p o marks) (each_in (scope ++ apart ∷ []) (claim o))
  post_listed None scope marks agree = list_none functions p c
  post_listed (Some post) scope marks agree =
      list_one functions p c
      (expr_listed post.1 (scope ++ apart ∷ []) (marks ++ false ∷ []) (apart_marked p scope marks agree))

  pub function_listed : (f : Function) → ListsIn functions p c (descents_from functions p f) (parts_of_function f)
  function_listed f =
      let scope = replicate (length f.params) apart in
      let marks = replicate (length f.params) false in
      let agree = params_marked p (length f.params) in
      let before = pre_descents functions p f.pre marks ++ in_all (map Look f.measure) marks in
      subst (λ l. ListsIn functions p c l (parts_of_function f))
      (sym (append_assoc before (descents functions p f.body marks) (post_descents functions p f.post marks)))
      (list_append functions p c
      (list_append functions p c (pre_listed f.pre scope marks agree) (exprs_listed f.measure scope marks agree))
      (list_more functions p c (expr_listed f.body scope marks agree) (post_listed f.post scope marks agree)))

-- ---- the parameter that goes down

tree_sort : (s : Sort) → is_tree s ≡ true → (d : DataId) × (s ≡ sort.Tree d)
tree_sort sort.Int h = let no : false ≡ true = h in cc
tree_sort sort.Bool h = let no : false ≡ true = h in cc
tree_sort (sort.Tree d) h = (d, refl)

-- the parameter with which the measure begins is of a datatype
record IsTreeParam (f : Function) (q : ℕ) : Type 0 where
  begins : BeginsWith f q
  datatype : IsOfDatatype f q

tree_param_is : (f : Function) (q : ℕ) → tree_param f ≡ Some q → IsTreeParam f q
tree_param_is f q is = by (first_param f) refl is
  where
    by_sort : (r : ℕ) → first_param f ≡ Some r → (o : Option Param) → slice_get f.params r ≡ o → (t : Bool)
        → is_tree_param o ≡ t → (if t then Some r else None) ≡ Some q → IsTreeParam f q
    by_sort r first o at false tree here = cc
    by_sort r first None at true tree here = let no : false ≡ true = tree in cc
    by_sort r first (Some x) at true tree here =
        let same : r ≡ q = cc in
        let d = tree_sort x.sort tree in
        subst (IsTreeParam f) same (record { begins = begins_if f r first; datatype = (x, d.0, at, d.1) })

    by : (o : Option ℕ) → first_param f ≡ o → if_tree f.params o ≡ Some q → IsTreeParam f q
    by None first here = cc
    by (Some r) first here =
        by_sort r first (slice_get f.params r) refl (is_tree_param (slice_get f.params r)) refl here

is_tree_param_of : (f : Function) (q : ℕ) → BeginsWith f q → IsOfDatatype f q → tree_param f ≡ Some q
is_tree_param_of f q begins datatype =
    let tree : is_tree_param (slice_get f.params q) ≡ true = ap is_tree_param datatype.2 ∙ ap is_tree datatype.3 in
    ap (if_tree f.params) (first_param_is f q begins) ∙ ap (λ (t : Bool). if t then Some q else None) tree

-- ---- the checks of a function

-- what is found are plain descents
pub found_descends : (functions : List Function) (f : Function) (c : ℕ) → Contains (plain_descents functions f) c
    → HasDescent functions f c
found_descends functions f c h = by (tree_param f) refl h
  where
    by : (o : Option ℕ) → tree_param f ≡ o → Contains (descents_at functions f o) c → HasDescent functions f c
    by None is h = absurd (nothing c h)
    by (Some q) is h =
        let t = tree_param_is f q is in
        let l = (function_listed functions q c f).to h in
        record {
          param = q;
          begins = t.begins;
          datatype = t.datatype;
          part = l.part;
          listed = l.listed;
          site = l.found.site;
          stands = l.found.stands;
          down = l.found.down;
        }

-- a plain descent is listed for its parameter
pub descent_listed : (functions : List Function) (f : Function) (c : ℕ) (d : HasDescent functions f c)
    → Contains (descents_from functions d.param f) c
descent_listed functions f c d =
    (function_listed functions d.param c f).from (record {
      part = d.part;
      listed = d.listed;
      found = record { site = d.site; stands = d.stands; down = d.down };
    })

-- plain descents are found
pub descent_found : (functions : List Function) (f : Function) (c : ℕ) → HasDescent functions f c
    → Contains (plain_descents functions f) c
descent_found functions f c d =
    subst (λ (o : Option ℕ). Contains (descents_at functions f o) c)
    (sym (is_tree_param_of f d.param d.begins d.datatype)) (descent_listed functions f c d)
