-- One level of an expression, where the check is among its descents as often as its sites carry it: the level doesn't
-- fail it.
use Rattle.std.proofs.Common.{◌≡◌, ◌⊎◌, ℕ, ◌+◌, nat_eq, Bool, true, false, ◌||◌, List, [], ◌∷◌, ◌++◌, map, Option}
use Rattle.std.proofs.Common.{Some, None, Ok, slice_get, refl, sym, ap, ◌∙◌, subst, arith, inl, inr, eqb-true}
use Rattle.pp_list.proofs.With.{With, elements}
use Rattle.pp_prog.specs.Listing.{with_case_sites, with_sites}
use Rattle.pp_plain_laws.proofs.Setting.{IsCase, IsExpr}
use Rattle.pp_graph.specs.Rows.{marked}
use Rattle.pp_prog.specs.declared.check.CheckKind.TheVariants as kind
use Rattle.pp_tree.specs.declared.operator.BinaryOp.{BinaryOp}
use Rattle.pp_tree.specs.declared.operator.BinaryOp.TheVariants.{Div, Rem, AndAlso, OrElse}
use Rattle.pp_prog.specs.declared.expr.Expr.TheOpen as layer
use Rattle.pp_prog.specs.declared.id.CheckId.{CheckId}
use Rattle.pp_prog.specs.declared.id.FunctionId.{FunctionId}
use Rattle.pp_prog.specs.declared.program.Program.{Program}
use Rattle.pp_prog.specs.declared.sort.Sort.{Sort}
use Rattle.pp_prog.specs.declared.sort.Sort.TheVariants as sort
use Rattle.pp_prog.specs.declared.value.Value.{Value}
use Rattle.pp_prog.specs.ExprSorts.{alike, field_sort, sorts_in}
use Rattle.pp_prog.specs.ExprSorts as sorts
use Rattle.pp_prog.specs.Listing.{as_kind, assertion, at_sort, matching, measure, operator_site, precondition}
use Rattle.pp_prog.specs.Listing.{sites_of_all, sites_of_cases, unguarded}
use Rattle.pp_prog.specs.Sorts.{param_sorts}
use Rattle.pp_prog.specs.Values.{IsBelow}
use Rattle.pp_eval.specs.Meaning.{Meaning, all_from, binary}
use Rattle.pp_sound.proofs.Cases.{each_arm}
use Rattle.pp_prog.proofs.ValueSorts.{Have, have_more, have_one}
use Rattle.pp_sound.proofs.Sites.{AreMet, met_head, met_left, met_right, met_tail}
use Rattle.pp_prog.proofs.PartSorts.{alike_are, binary_parts, bool_then, call_sort_is, sort_then, tree_sort_is}
use Rattle.pp_prog.proofs.PartSorts.{tree_then, unary_part}
use Rattle.pp_checks.specs.Marks.{Seen, as_check, first_param_of, goes_down, in_all, in_cases, inside_at, is_inside}
use Rattle.pp_checks.specs.Marks.{is_live, when}
use Rattle.pp_run_laws.proofs.Stops.{MayDivide, field_stops, found_stops, operated_stops, unary_stops}
use Rattle.pp_plain_laws.proofs.Counts.{count_append, ids, uncounted, places_append}
use Rattle.pp_plain_laws.proofs.Scope.{IsClean, IsOther, clean_either, clean_stop, clean_then, clean_value, found_some}
use Rattle.pp_plain_laws.proofs.Scope.{one_in_scope, other_stuck, truth_clean}
use Rattle.pp_plain_laws.proofs.Setting.{GoesBelow, Setting, Sorted, Placed, Meant, Looked, SortedArm, LookedArm}
use Rattle.pp_plain_laws.proofs.Setting.{found_in, carried_by, InScope, IsLive, list_few, list_clean, list_sorted}
use Rattle.pp_plain_laws.proofs.Setting.{variable_at, cases_few, cases_clean, other_fails, valued}
use Rattle.pp_plain_laws.proofs.Levels.{check_ids, looked, meant, placed, sorted, when_few}

module _ (x : Setting) where
  abbrev p : Program
  p = x.p

  abbrev i : ℕ
  i = x.i

  abbrev c : CheckId
  c = x.c

  abbrev pp : ℕ
  pp = x.pp

  abbrev v0 : Value
  v0 = x.v0

  may_fail : (op : BinaryOp) (check : Option CheckId) → (carried_by x) (operator_site op check ∷ []) ≡ 0
      → MayDivide (IsOther c) (other_stuck c) op check
  may_fail Div check none = (other_fails x) check (uncounted c.0 kind.Division check c refl (omega (arith, none)))
  may_fail Rem check none = (other_fails x) check (uncounted c.0 kind.Division check c refl (omega (arith, none)))
  may_fail op check none = tt

  binary_clean : (op : BinaryOp) (check : Option CheckId) → MayDivide (IsOther c) (other_stuck c) op check
      → (a b : Meaning) (env : List Value) → IsClean c (a x.old env) → IsClean c (b x.old env)
      → IsClean c (binary op a b check x.old env)
  binary_clean AndAlso check may a b env ka kb =
      clean_then _ ka (λ x at. clean_then _ (truth_clean c x) (λ t is. clean_either t kb clean_value))
  binary_clean OrElse check may a b env ka kb =
      clean_then _ ka (λ x at. clean_then _ (truth_clean c x) (λ t is. clean_either t clean_value kb))
  binary_clean op check may a b env ka kb =
      clean_then _ ka (λ x at. clean_then _ kb (λ y is. record {
        told = operated_stops (IsOther c) (other_stuck c) op
            check may x y;
      }))

  -- a value that is matched live
  live_is : (o : Option ℕ) (marks : List Bool) (env : List Value) → (InScope x) marks env → (v : Value)
      → ((k : ℕ) → o ≡ Some k → slice_get env k ≡ Some v) → (IsLive x) (is_live pp marks o) v
  live_is None marks env inside v at h = cc
  live_is (Some k) marks env inside v at h = by (nat_eq k pp) refl h
    where
      here : slice_get env k ≡ Some v
      here = at k refl

      by : (t : Bool) → nat_eq k pp ≡ t → (t || marked marks k) ≡ true → (v ≡ v0) ⊎ IsBelow v v0
      by true e h =
          let both : Some v ≡ Some v0 = sym here ∙ ap (slice_get env) (eqb-true k pp e) ∙ inside.param in
          let same : v ≡ v0 = cc in inl same
      by false e h = inr (inside.below k v h here)

  -- where the call is a plain descent, its argument goes below
  goes_below : (args : List (With (IsExpr x))) (g : FunctionId) (marks : List Bool) (env vs : List Value)
      → (InScope x) marks env
      → all_from [] (map (Meant x) (elements args)) x.old env ≡ Ok vs
      → goes_down (first_param_of (slice_get p.functions g.0)) (map (Looked x) (elements args)) marks ≡ true
      → GoesBelow p.functions v0 g vs
  goes_below args g marks env vs inside e h = by_param (first_param_of (slice_get p.functions g.0)) refl h
    where
      by_variable : (q : ℕ) (sn : Seen) → first_param_of (slice_get p.functions g.0) ≡ Some q
          → slice_get (map (Looked x) (elements args)) q ≡ Some sn → (o : Option ℕ) → sn.0 ≡ o
          → is_inside marks o ≡ true
          → GoesBelow p.functions v0 g vs
      by_variable q sn is at None var h = cc
      by_variable q sn is at (Some k) var h =
          let r = (variable_at x) args q sn k at var env [] vs e in
          let n : 0 + q ≡ q = omega arith in
          record {
            place = q;
            param = is;
            value = r.0;
            there = sym (ap (slice_get vs) n) ∙ r.2;
            below = inside.below k
                r.0 h r.1;
          }

      by_seen : (q : ℕ) → first_param_of (slice_get p.functions g.0) ≡ Some q → (o : Option Seen)
          → slice_get (map (Looked x) (elements args)) q ≡ o → inside_at o marks ≡ true → GoesBelow p.functions v0 g vs
      by_seen q is None at h = cc
      by_seen q is (Some sn) at h = by_variable q sn is at sn.0 refl h

      by_param : (o : Option ℕ) → first_param_of (slice_get p.functions g.0) ≡ o
          → goes_down o (map (Looked x) (elements args)) marks ≡ true → GoesBelow p.functions v0 g vs
      by_param None is h = cc
      by_param (Some q) is h = by_seen q is (slice_get (map (Looked x) (elements args)) q) refl h

  -- a check that is counted only where the descent is plain
  plain_there : (t : Bool) (down : Option CheckId)
      → (found_in x) (when t (as_check down)) ≡ (found_in x) (ids c.0 (as_kind kind.Measure down))
      → down ≡ Some c → t ≡ true
  plain_there true down e is = refl
  plain_there false down e is =
      absurd (uncounted c.0 kind.Measure down c refl (sym e) is)

  pub level_clean : (y : layer.Expr-F (With (IsExpr x)) (With (IsCase x))) (scope : List Sort) (s : Sort)
      → sorted x y scope ≡ Some s
      → AreMet p i (placed x y scope)
      → (env : List Value) → Have p.types.ctors scope env → (marks : List Bool) → (InScope x) marks env
      → (found_in x) ((looked x y).1 marks) ≡ (carried_by x) (placed x y scope) → IsClean c (meant x y x.old env)
  level_clean (layer.Int n) scope s h met env have marks inside tight = clean_value
  level_clean (layer.Bool b) scope s h met env have marks inside tight = clean_value
  level_clean (layer.Var k) scope s h met env have marks inside tight =
      record { told = found_stops (IsOther c) (other_stuck c) (slice_get env k) }
  level_clean (layer.Unary op a) scope s h met env have marks inside tight =
      let t = unary_part op ((Sorted x) a.0 scope) s h in
      clean_then _ (a.1.clean scope t.0 t.1 met env have marks inside tight)
      (λ v at. record { told = unary_stops (IsOther c) (other_stuck c) op v })
  level_clean (layer.Binary op a b check) scope s h met env have marks inside tight =
      let t = binary_parts op ((Sorted x) a.0 scope) ((Sorted x) b.0 scope) s h in
      let fa = a.1.few scope t.0.0 t.0.1 marks in
      let fb = b.1.few scope t.1.0 t.1.1 marks in
      let d = count_append c.0 (((Looked x) a.0).1 marks) (((Looked x) b.0).1 marks) in
      let e = places_append c.0 ((Placed x) a.0 scope ++ (Placed x) b.0 scope) (operator_site op check ∷ []) in
      let f = places_append c.0 ((Placed x) a.0 scope) ((Placed x) b.0 scope) in
      binary_clean op check (may_fail op check (omega (arith, fa, fb, d, e, f, tight))) ((Meant x) a.0)
      ((Meant x) b.0) env
      (a.1.clean scope t.0.0 t.0.1 (met_left _ _ (met_left _ _ met)) env have marks inside
      (omega (arith, fa, fb, d, e, f, tight)))
      (b.1.clean scope t.1.0 t.1.1 (met_right _ _ (met_left _ _ met)) env have marks inside
      (omega (arith, fa, fb, d, e, f, tight)))
  level_clean (layer.Construct d args) scope s h met env have marks inside tight =
      let k = tree_sort_is (slice_get p.types.ctors d.0) (sorts_in scope (map (Sorted x) (elements args))) s h in
      clean_then _ ((list_clean x) args k.0.fields scope k.2 met env have marks inside tight []) (λ vs at. clean_value)
  level_clean (layer.Field e k) scope s h met env have marks inside tight =
      let d = tree_then ((Sorted x) e.0 scope) (λ d. field_sort p.types p.functions d k) s h in
      clean_then _ (e.1.clean scope (sort.Tree d.0) d.1 met env have marks inside tight)
      (λ v at. record { told = field_stops (IsOther c) (other_stuck c) v k })
  level_clean (layer.If t a b) scope s h met env have marks inside tight =
      let k = bool_then ((Sorted x) t.0 scope) (alike ((Sorted x) a.0 scope) ((Sorted x) b.0 scope)) s h in
      let both = alike_are ((Sorted x) a.0 scope) ((Sorted x) b.0 scope) s k.1 in
      let ft = t.1.few scope sort.Bool k.0 marks in
      let fa = a.1.few scope s both.0 marks in
      let fb = b.1.few scope s both.1 marks in
      let d = count_append c.0 (((Looked x) t.0).1 marks ++ ((Looked x) a.0).1 marks) (((Looked x) b.0).1 marks) in
      let e = count_append c.0 (((Looked x) t.0).1 marks) (((Looked x) a.0).1 marks) in
      let f = places_append c.0 ((Placed x) t.0 scope ++ (Placed x) a.0 scope) ((Placed x) b.0 scope) in
      let g = places_append c.0 ((Placed x) t.0 scope) ((Placed x) a.0 scope) in
      clean_then _ (t.1.clean scope sort.Bool k.0 (met_left _ _ (met_left _ _ met)) env have marks inside
      (omega (arith, ft, fa, fb, d, e, f, g, tight)))
      (λ v at. clean_then _ (truth_clean c v) (λ q is. clean_either q
      (a.1.clean scope s both.0 (met_right _ _ (met_left _ _ met)) env have marks inside
      (omega (arith, ft, fa, fb, d, e, f, g, tight)))
      (b.1.clean scope s both.1 (met_right _ _ met) env have marks inside
      (omega (arith, ft, fa, fb, d, e, f, g, tight)))))
  level_clean (layer.Match e ys check) scope s h met env have marks inside tight =
      let arms = map (SortedArm x) (elements ys) in
      let placed_cases = with_case_sites p.types p.functions (elements ys) in
      let t = sort_then ((Sorted x) e.0 scope) (λ t. sorts.arms_sort p.types p.functions arms t scope) s h in
      let live = is_live pp marks ((Looked x) e.0).0 in
      let each = each_arm p t.0 s scope arms t.2 in
      let met_after : AreMet p i (matching t.0 (unguarded placed_cases) check ∷ sites_of_cases placed_cases t.0 scope) =
      subst (λ o. AreMet p i (at_sort o (λ t. matching t (unguarded placed_cases) check ∷ sites_of_cases placed_cases
      t scope))) t.1 (met_right _ _ met) in
      let after : (carried_by x) (at_sort ((Sorted x) e.0 scope) (λ t. matching t (unguarded placed_cases) check ∷
      sites_of_cases placed_cases t scope))
      ≡ (carried_by x) (matching t.0 (unguarded placed_cases) check ∷ sites_of_cases placed_cases t.0 scope) =
      ap (λ o. (carried_by x) (at_sort o (λ t. matching t (unguarded placed_cases) check ∷ sites_of_cases placed_cases
      t scope))) t.1 in
      let fe = e.1.few scope t.0 t.1 marks in
      let fc = (cases_few x) ys t.0 s scope each live marks in
      let d = count_append c.0 (((Looked x) e.0).1 marks) (in_cases (map (LookedArm x) (elements ys)) live marks) in
      let f = places_append c.0 ((Placed x) e.0 scope) (at_sort ((Sorted x) e.0 scope)
      (λ t. matching t (unguarded placed_cases) check ∷ sites_of_cases placed_cases t scope)) in
      clean_then _ (e.1.clean scope t.0 t.1 (met_left _ _ met) env have marks inside
      (omega (arith, fe, fc, d, f, after, tight)))
      (λ v at. (cases_clean x) ys t.0 s scope each (met_tail met_after) env have live marks inside
      (omega (arith, fe, fc, d, f, after, tight)) v
      ((valued x) e.0 scope t.0 t.1 (met_left _ _ met) env have v at)
      (live_is ((Looked x) e.0).0 marks env inside v (λ k is. found_some (slice_get env k) v
      (sym (e.1.variable k is env) ∙ at))) check
      (uncounted c.0 kind.Match check c refl (omega (arith, fe, fc, d, f, after, tight))))
  level_clean (layer.Val a b) scope s h met env have marks inside tight =
      let t = sort_then ((Sorted x) a.0 scope) (λ t. (Sorted x) b.0 (scope ++ t ∷ [])) s h in
      let met_after : AreMet p i ((Placed x) b.0 (scope ++ t.0 ∷ [])) = subst
      (λ o. AreMet p i (at_sort o (λ t. (Placed x) b.0 (scope ++ t ∷ [])))) t.1 (met_right _ _ met) in
      let after : (carried_by x) (at_sort ((Sorted x) a.0 scope) (λ t. (Placed x) b.0 (scope ++ t ∷ []))) ≡
      (carried_by x) ((Placed x) b.0 (scope ++ t.0 ∷ [])) =
      ap (λ o. (carried_by x) (at_sort o (λ t. (Placed x) b.0 (scope ++ t ∷ [])))) t.1 in
      let fa = a.1.few scope t.0 t.1 marks in
      let fb = b.1.few (scope ++ t.0 ∷ []) s t.2 (marks ++ false ∷ []) in
      let d = count_append c.0 (((Looked x) a.0).1 marks) (((Looked x) b.0).1 (marks ++ false ∷ [])) in
      let f = places_append c.0 ((Placed x) a.0 scope) (at_sort ((Sorted x) a.0 scope)
      (λ t. (Placed x) b.0 (scope ++ t ∷ []))) in
      clean_then _ (a.1.clean scope t.0 t.1 (met_left _ _ met) env have marks inside
      (omega (arith, fa, fb, d, f, after, tight)))
      (λ v at. b.1.clean (scope ++ t.0 ∷ []) s t.2 met_after (env ++ v ∷ [])
      (have_more p.types.ctors scope (t.0 ∷ []) env (v ∷ []) have (have_one p.types.ctors t.0 v
      ((valued x) a.0 scope t.0 t.1 (met_left _ _ met) env have v at)))
      (marks ++ false ∷ []) (one_in_scope pp v0 marks env v inside) (omega (arith, fa, fb, d, f, after, tight)))
  level_clean (layer.Assert check t rest) scope s h met env have marks inside tight =
      let k = bool_then ((Sorted x) t.0 scope) ((Sorted x) rest.0 scope) s h in
      let met_after : AreMet p i (assertion check ∷ (Placed x) rest.0 scope) = met_right ((Placed x) t.0 scope) _ met in
      let ft = t.1.few scope sort.Bool k.0 marks in
      let fr = rest.1.few scope s k.1 marks in
      let d = count_append c.0 (((Looked x) t.0).1 marks) (((Looked x) rest.0).1 marks) in
      let f = places_append c.0 ((Placed x) t.0 scope) (assertion check ∷ (Placed x) rest.0 scope) in
      let other = uncounted c.0 kind.Assertion (Some check) c refl (omega (arith, ft, fr, d, f, tight)) in
      clean_then _ (t.1.clean scope sort.Bool k.0 (met_left _ _ met) env have marks inside
      (omega (arith, ft, fr, d, f, tight)))
      (λ v at. clean_then _ (truth_clean c v) (λ q is. clean_either q
      (rest.1.clean scope s k.1 (met_tail met_after) env have marks inside (omega (arith, ft, fr, d, f, tight)))
      (clean_stop ((other_fails x) (Some check) other check refl))))
  level_clean (layer.Call g args pre down) scope s h met env have marks inside tight =
      let f = call_sort_is (slice_get p.functions g.0) (sorts_in scope (map (Sorted x) (elements args))) s h in
      let plain = goes_down (first_param_of (slice_get p.functions g.0)) (map (Looked x) (elements args)) marks in
      let own : AreMet p i (precondition g pre ∷ measure g down ∷ []) =
      met_right (sites_of_all (with_sites p.types p.functions (elements args)) scope) _ met in
      let fl = (list_few x) args (param_sorts f.0.params) scope f.2 marks in
      let fw = when_few x plain (as_check down) in
      let ci = check_ids x kind.Measure down in
      let d = count_append c.0 (in_all (map (Looked x) (elements args)) marks) (when plain (as_check down)) in
      let e = places_append c.0 (sites_of_all (with_sites p.types p.functions (elements args)) scope)
      (precondition g pre ∷ measure g down ∷ []) in
      clean_then _ ((list_clean x) args (param_sorts f.0.params) scope f.2 (met_left _ _ met) env have marks inside
      (omega (arith, fl, fw, ci, d, e, tight)) [])
      (λ vs at. x.calls_clean.clean g pre down vs f.0 f.1
      ((list_sorted x) args (param_sorts f.0.params) scope f.2 (met_left _ _ met) env have [] [] refl vs at)
      (met_head own) (met_head (met_tail own))
      (uncounted c.0 kind.Precondition pre c refl (omega (arith, fl, fw, ci, d, e, tight)))
      (λ is. goes_below args g marks env vs inside at (plain_there plain down (omega (arith, fl, fw, ci, d, e, tight))
      is)))
