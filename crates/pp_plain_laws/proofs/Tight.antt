-- Each part of a function carries a plain descent exactly as often as it is among the part's descents.
use Rattle.std.proofs.Common.{◌≡◌, ℕ, ◌≤◌, Bool, true, false, List, [], ◌∷◌, ◌++◌, map, Option, Some, None, is_some}
use Rattle.std.proofs.Common.{pos, length, replicate, slice_get, arith, Contains}
use Rattle.std.proofs.lemmas.Bool.{and_parts}
use Rattle.pp_prog.specs.declared.expr.Expr.{Expr}
use Rattle.pp_prog.specs.declared.expr.Function.{Function}
use Rattle.pp_prog.specs.declared.id.CheckId.{CheckId}
use Rattle.pp_prog.specs.declared.program.Program.{Program}
use Rattle.pp_prog.specs.declared.sort.Sort.{Sort}
use Rattle.pp_prog.specs.declared.sort.Sort.TheVariants as sort
use Rattle.pp_prog.specs.declared.value.Value.TheVariants.{Int}
use Rattle.pp_prog.specs.ExprSorts.{is_sorted_measure, is_sorted_post, is_sorted_pre, sort_of}
use Rattle.pp_prog.specs.Listing.{function_sites, measure_sites, post_sites, postcondition, pre_sites, sites}
use Rattle.pp_prog.specs.Sorts.{param_sorts}
use Rattle.pp_eval.specs.Invocation.{no_fuel}
use Rattle.pp_sound.proofs.Calls.{IsWhole, whole}
use Rattle.pp_prog.proofs.PartSorts.{has_the_sort_is, some_sort}
use Rattle.pp_checks.specs.Marks.{descents, descents_from, in_all, post_descents, pre_descents, seen}
use Rattle.pp_sound.proofs.Laws.{no_fuel_good}
use Rattle.pp_plain_laws.proofs.Cleaning.{expr_clean}
use Rattle.pp_plain_laws.proofs.Setting.{CallsClean, IsExpr, Setting}
use Rattle.pp_plain_laws.proofs.Counts.{carried_once, count, count_append, count_has, places, places_append}
use Rattle.pp_plain_laws.proofs.Scope.{clean_stop, other_deep}

module _ (p : Program) (i : ℕ) (f : Function) (function : slice_get p.functions i ≡ Some f) (c : CheckId) (pp : ℕ) where
  abbrev pub U : Type 0
  U = Unit {0}

  abbrev pub marks : List Bool
  marks = replicate (length f.params) false

  abbrev pub scope : List Sort
  scope = param_sorts f.params

  abbrev pub whole_f : IsWhole p i f
  whole_f = whole p i f function

  -- what is counted doesn't depend on values and calls
  none_clean : CallsClean p i c no_fuel None (Int (pos 0))
  none_clean = record { clean = λ g pre down args h is have met_pre met_down other below. clean_stop (other_deep c) }

  abbrev none_known : Setting
  none_known = record {
    p = p;
    i = i;
    c = c;
    calls0 = no_fuel;
    good = no_fuel_good p i;
    old = None;
    pp = pp;
    v0 = Int (pos 0);
    calls_clean = none_clean;
  }

  none_expr : (e : Expr) → IsExpr none_known e
  none_expr e = expr_clean none_known e

  -- ---- how often the check is among the descents of each part, and carried by its sites

  pub pre_few : (pre : Option Expr) → is_sorted_pre p.types p.functions pre scope ≡ true
      → count c.0 (pre_descents p.functions pp pre marks) ≤ places c.0 (pre_sites p.types p.functions pre scope)
  pre_few None sorted = omega arith
  pre_few (Some pre) sorted =
      (none_expr pre).few scope sort.Bool (has_the_sort_is p.types p.functions sort.Bool _ sorted) marks

  pub measure_few : (es : List Expr) → is_sorted_measure p.types p.functions es scope ≡ true
      → count c.0 (in_all (map (seen p.functions pp) es) marks) ≤ places c.0
      (measure_sites p.types p.functions es scope)
  measure_few [] sorted = omega arith
  measure_few (e ∷ es) sorted =
      let h = and_parts (is_some (sort_of p.types p.functions e scope)) _ sorted in
      let s = some_sort (sort_of p.types p.functions e scope) h.0 in
      omega (
        arith,
        (none_expr e).few scope s.0 s.1 marks,
        measure_few es h.1,
        count_append c.0 ((seen p.functions pp e).1 marks) (in_all (map (seen p.functions pp) es) marks),
        places_append c.0 (sites p.types p.functions e scope) (measure_sites p.types p.functions es scope),
      )

  body_few : count c.0 (descents p.functions pp f.body marks) ≤ places c.0 (sites p.types p.functions f.body scope)
  body_few = (none_expr f.body).few scope f.result whole_f.body_sorted marks

  post_few : (post : Option (CheckId × Expr)) → is_sorted_post p.types p.functions post (scope ++ f.result ∷ []) ≡ true
      → count c.0 (post_descents p.functions pp post marks) ≤ places c.0
      (post_sites p.types p.functions post f.result scope)
  post_few None sorted = omega arith
  post_few (Some post) sorted =
      omega (
        arith,
        (none_expr post.1).few (scope ++ f.result ∷ []) sort.Bool (has_the_sort_is p.types p.functions sort.Bool _
            sorted) (marks ++ false ∷ []),
        places_append c.0 (sites p.types p.functions post.1 (scope ++ f.result ∷ [])) (postcondition post.0 ∷ []),
      )

  abbrev pre_found : List ℕ
  pre_found = pre_descents p.functions pp f.pre marks

  abbrev measure_found : List ℕ
  measure_found = in_all (map (seen p.functions pp) f.measure) marks

  abbrev body_found : List ℕ
  body_found = descents p.functions pp f.body marks

  abbrev post_found : List ℕ
  post_found = post_descents p.functions pp f.post marks

  -- each part carries the check exactly as often as it is among its descents
  pub record AreTight : Type 0 where
    pub pre : count c.0 pre_found ≡ places c.0 (pre_sites p.types p.functions f.pre scope)
    pub measure : count c.0 measure_found ≡ places c.0 (measure_sites p.types p.functions f.measure scope)
    pub body : count c.0 body_found ≡ places c.0 (sites p.types p.functions f.body scope)
    pub post : count c.0 post_found ≡ places c.0 (post_sites p.types p.functions f.post f.result scope)

  -- the sites carry it at least as often
  pub all_few : count c.0 (descents_from p.functions pp f) ≤ places c.0 (function_sites p.types p.functions f)
  all_few =
      let pre_at = pre_sites p.types p.functions f.pre scope in
      let measure_at = measure_sites p.types p.functions f.measure scope in
      let body_at = sites p.types p.functions f.body scope in
      let post_at = post_sites p.types p.functions f.post f.result scope in
      let a = count_append c.0 (pre_found ++ measure_found ++ body_found) post_found in
      let b = count_append c.0 (pre_found ++ measure_found) body_found in
      let d = count_append c.0 pre_found measure_found in
      let e = places_append c.0 (pre_at ++ measure_at ++ body_at) post_at in
      let g = places_append c.0 (pre_at ++ measure_at) body_at in
      let h = places_append c.0 pre_at measure_at in
      omega (
        arith,
        a,
        b,
        d,
        e,
        g,
        h,
        pre_few f.pre whole_f.pre_sorted,
        measure_few f.measure whole_f.measure_sorted,
        body_few,
        post_few f.post whole_f.post_sorted,
      )

  pub are_tight : Contains (descents_from p.functions pp f) c.0 → AreTight
  are_tight here =
      let pre_at = pre_sites p.types p.functions f.pre scope in
      let measure_at = measure_sites p.types p.functions f.measure scope in
      let body_at = sites p.types p.functions f.body scope in
      let post_at = post_sites p.types p.functions f.post f.result scope in
      let a = count_append c.0 (pre_found ++ measure_found ++ body_found) post_found in
      let b = count_append c.0 (pre_found ++ measure_found) body_found in
      let d = count_append c.0 pre_found measure_found in
      let e = places_append c.0 (pre_at ++ measure_at ++ body_at) post_at in
      let g = places_append c.0 (pre_at ++ measure_at) body_at in
      let h = places_append c.0 pre_at measure_at in
      let once = carried_once c.0 p i f function in
      let has = count_has c.0 (pre_found ++ measure_found ++ body_found ++ post_found) here in
      let one = pre_few f.pre whole_f.pre_sorted in
      let two = measure_few f.measure whole_f.measure_sorted in
      let four = post_few f.post whole_f.post_sorted in
      record {
        pre = omega (arith, a, b, d, e, g, h, once, has, one, two, body_few, four);
        measure = omega (arith, a, b, d, e, g, h, once, has, one, two, body_few, four);
        body = omega (arith, a, b, d, e, g, h, once, has, one, two, body_few, four);
        post = omega (arith, a, b, d, e, g, h, once, has, one, two, body_few, four);
      }
