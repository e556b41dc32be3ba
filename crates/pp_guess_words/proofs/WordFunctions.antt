-- The expressions of the functions of a word function's cone, as conditions on the steps of its guess runs.
use Rattle.std.proofs.Common.{◌≡◌, ℕ, Bool, true, List, [], ◌∷◌, ◌++◌, map, Option, Some, None, refl, sym, subst}
use Rattle.std.proofs.Common.{Contains, inl, inr, is_some}
use Rattle.std.specs.Prelude.{slice_get}
use Rattle.std.specs.List.{list_all}
use Rattle.std.proofs.lemmas.Bool.{and_parts}
use Rattle.pp_list.specs.Joined.{joined}
use Rattle.pp_graph.specs.Reaches.{by_call}
use Rattle.pp_graph.proofs.Paths.{further}
use Rattle.pp_prog.specs.declared.expr.Expr.{Expr}
use Rattle.pp_prog.specs.declared.expr.Function.{Function}
use Rattle.pp_prog.specs.declared.id.CheckId.{CheckId}
use Rattle.pp_prog.specs.declared.program.Program.{Program}
use Rattle.pp_prog.specs.declared.sort.Sort.{Sort}
use Rattle.pp_prog.specs.declared.sort.Sort.TheVariants as sort
use Rattle.pp_prog.specs.Calls.{FunctionReaches, call_table, calls, function_calls, post_calls, pre_calls}
use Rattle.pp_prog.specs.Cone.{InCone, IsWordFunction, is_word, is_word_expr, is_word_post, is_word_pre}
use Rattle.pp_prog.specs.ExprSorts.{is_sorted_measure, is_sorted_post, is_sorted_pre, sort_of}
use Rattle.pp_prog.specs.Sorts.{param_sorts}
use Rattle.pp_prog.proofs.PartSorts.{has_the_sort_is, some_sort}
use Rattle.pp_checks.proofs.Ruling.{calls_at}
use Rattle.pp_sound.proofs.Calls.{whole}
use Rattle.pp_steps.specs.Frames.{result_of}
use Rattle.pp_steps_run.specs.Told.{AllOf}
use Rattle.pp_guess_steps.proofs.Conditions.{CalledHold, Conditions, FunctionHolds, MaybeOf, PostHolds}
use Rattle.pp_guess_words.proofs.WordExprs.{IsWordCase, IsWordExpr, Makes, Meets, Within, case_parts_hold, expr_parts}
use Rattle.pp_guess_words.proofs.WordExprs.{within_left, within_right}

-- what passes a test, each does
each_passes : {A : Type 0} (test : A → Bool) (xs : List A) → list_all test xs ≡ true → AllOf (λ x. test x ≡ true) xs
each_passes test [] h = tt
each_passes test (x ∷ xs) h = let both = and_parts (test x) _ h in (both.0, each_passes test xs both.1)

module _ (p : Program) (start : ℕ) where
  -- what the expressions of a word function and of its cone satisfy: no tree is made, functions of the cone are called,
  -- and what is left open is a word
  abbrev pub Words : Conditions
  Words = record {
    Makes = Makes p start;
    Meets = Meets p start;
    Opens = λ s. is_word s ≡ true;
    Holds = IsWordExpr p start;
    Suits = IsWordCase p start;
    parts = expr_parts p start;
    case_parts = case_parts_hold p start;
  }

  -- a function of the cone calls functions of the cone
  cone_within : (g : ℕ) (f : Function) → InCone p.functions start g → slice_get p.functions g ≡ Some f
      → Within p start (function_calls f)
  cone_within g f cone is h has =
      by cone (by_call g h (subst (λ l. Contains l h) (sym (calls_at p.functions g f is)) has))
    where
      by : InCone p.functions start g → FunctionReaches p.functions g h → InCone p.functions start h
      by (inl e) r = inr (subst (λ k. FunctionReaches p.functions k h) (sym e) r)
      by (inr q) r = inr (further (call_table p.functions) start g h q r)

  expr_holds : (e : Expr) (scope : List Sort) (s : Sort) → sort_of p.types p.functions e scope ≡ Some s
      → is_word_expr p.types p.functions scope e ≡ true → Within p start (calls e) → IsWordExpr p start e
  expr_holds e scope s h words within =
      record { scope = scope; result = s; sorted = h; words = words; within = within }

  pre_holds : (o : Option Expr) (scope : List Sort) → is_sorted_pre p.types p.functions o scope ≡ true
      → is_word_pre p.types p.functions o scope ≡ true → Within p start (pre_calls o) → MaybeOf (IsWordExpr p start) o
  pre_holds None scope h words within = tt
  pre_holds (Some e) scope h words within =
      expr_holds e scope sort.Bool
      (has_the_sort_is p.types p.functions sort.Bool (sort_of p.types p.functions e scope) h) words within

  measure_holds : (es : List Expr) (scope : List Sort) → is_sorted_measure p.types p.functions es scope ≡ true
      → list_all (is_word_expr p.types p.functions scope) es ≡ true → Within p start (joined (map calls es))
      → AllOf (IsWordExpr p start) es
  measure_holds [] scope h words within = tt
  measure_holds (e ∷ es) scope h words within =
      let both = and_parts (is_some (sort_of p.types p.functions e scope)) _ h in
      let w = and_parts (is_word_expr p.types p.functions scope e) _ words in
      let s = some_sort (sort_of p.types p.functions e scope) both.0 in (
        expr_holds e scope s.0 s.1 w.0 (within_left p start (calls e) (joined (map calls es)) within),
        measure_holds es scope both.1 w.1 (within_right p start (calls e) (joined (map calls es)) within),
      )

  post_holds : (o : Option (CheckId × Expr)) (scope : List Sort)
      → is_sorted_post p.types p.functions o scope ≡ true → is_word_post p.types p.functions o scope ≡ true
      → Within p start (post_calls o) → PostHolds Words o
  post_holds None scope h words within = tt
  post_holds (Some post) scope h words within =
      expr_holds post.1 scope sort.Bool
      (has_the_sort_is p.types p.functions sort.Bool (sort_of p.types p.functions post.1 scope) h) words within

  module _ (words : IsWordFunction p.types p.functions start) where
    -- the sorts of a function of the cone
    pub record HasWords (f : Function) : Type 0 where
      pub params : AllOf (λ s. is_word s ≡ true) (param_sorts f.params)
      pub result : is_word f.result ≡ true
      pub holds : FunctionHolds Words f

    pub function_words : (g : ℕ) (f : Function) → InCone p.functions start g → slice_get p.functions g ≡ Some f
        → HasWords f
    function_words g f cone is =
        let scope = param_sorts f.params in
        let all = and_parts (list_all is_word scope) _ (words g f cone is) in
        let result = and_parts (is_word f.result) _ all.1 in
        let pre = and_parts (is_word_pre p.types p.functions f.pre scope) _ result.1 in
        let measure = and_parts (list_all (is_word_expr p.types p.functions scope) f.measure) _ pre.1 in
        let body = and_parts (is_word_expr p.types p.functions scope f.body) _ measure.1 in
        let w = whole p g f is in
        let first = pre_calls f.pre in
        let second = joined (map calls f.measure) in
        let third = calls f.body in
        let called = cone_within g f cone is in
        let front = within_left p start (first ++ second ++ third) (post_calls f.post) called in
        let contracts = within_left p start (first ++ second) third front in
        record {
          params = each_passes is_word scope all.0;
          result = result.0;
          holds = record {
            pre = pre_holds f.pre scope w.pre_sorted pre.0 (within_left p start first second contracts);
            measure = measure_holds f.measure scope w.measure_sorted measure.0
                (within_right p start first second contracts);
            body = expr_holds f.body scope f.result w.body_sorted body.0
                (within_right p start (first ++ second) third front);
            post = post_holds f.post (scope ++ f.result ∷ []) w.post_sorted body.1
                (within_right p start (first ++ second ++ third) (post_calls f.post) called);
          };
        }

    pub called_hold : CalledHold Words p.functions
    called_hold g f met is = (function_words g.0 f met is).holds

    -- a call of a function of the cone has a word
    pub result_word : (g : ℕ) → InCone p.functions start g → is_word (result_of (slice_get p.functions g)) ≡ true
    result_word g cone = by (slice_get p.functions g) refl
      where
        by : (o : Option Function) → slice_get p.functions g ≡ o → is_word (result_of o) ≡ true
        by None is = refl
        by (Some f) is = (function_words g f cone is).result
