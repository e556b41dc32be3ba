-- No run and no guess run fails a plain descent.
use Rattle.std.proofs.Common.{◌≡◌, ℕ, zero, suc, Bool, true, false, List, [], ◌∷◌, ◌++◌, map, Option, Some, None}
use Rattle.std.proofs.Common.{is_some, Ok, length, replicate, slice_get, refl, ap, arith, Contains}
use Rattle.std.proofs.lemmas.Bool.{and_parts}
use Rattle.std.proofs.lemmas.List.{length-map, length-replicate}
use Rattle.pp_graph.specs.Rows.{marked}
use Rattle.pp_prog.specs.declared.check.CheckKind.TheVariants as kind
use Rattle.pp_prog.specs.declared.expr.Expr.{Expr}
use Rattle.pp_prog.specs.declared.expr.Function.{Function}
use Rattle.pp_prog.specs.declared.id.CheckId.{CheckId}
use Rattle.pp_prog.specs.declared.program.Program.{Program}
use Rattle.pp_prog.specs.declared.sort.Sort.{Sort}
use Rattle.pp_prog.specs.declared.sort.Sort.TheVariants as sort
use Rattle.pp_prog.specs.declared.value.Value.{Value}
use Rattle.pp_prog.specs.ExprSorts.{is_sorted_measure, is_sorted_post, is_sorted_pre, sort_of}
use Rattle.pp_prog.specs.Listing.{measure_sites, post_sites, postcondition, pre_sites, sites}
use Rattle.pp_prog.specs.Sorts.{has_sort, param_sorts, sort_of_param}
use Rattle.pp_eval.specs.Invocation.{allowed, frame_of}
use Rattle.pp_eval.specs.Meaning.{CallMeaning, Frame, all_from, meaning}
use Rattle.pp_eval.specs.Operators.{truth}
use Rattle.pp_eval.specs.Part.{and_then}
use Rattle.pp_eval.specs.Runs.{finished, run_with}
use Rattle.pp_sound.specs.Sound.{IsCalled}
use Rattle.pp_sound.proofs.Calls.{IsWhole, whole}
use Rattle.pp_prog.proofs.ValueSorts.{Has, Have, have_more, have_one}
use Rattle.pp_sound.proofs.Exprs.{AreGood, expr_sound}
use Rattle.pp_sound.proofs.Sites.{AreMet, met_left, met_right}
use Rattle.pp_prog.proofs.PartSorts.{has_the_sort_is, some_sort}
use Rattle.pp_checks.specs.Marks.{descents_from, in_all, post_descents, pre_descents, seen}
use Rattle.pp_run_laws.proofs.MeasureSorts.{told_value}
use Rattle.pp_plain_laws.proofs.Cleaning.{expr_clean}
use Rattle.pp_plain_laws.proofs.Setting.{CallsClean, IsExpr, Setting}
use Rattle.pp_plain_laws.proofs.Counts.{count, count_append, places, places_append, uncounted}
use Rattle.pp_plain_laws.proofs.Scope.{AreInScope, IsClean, clean_either, clean_stop, clean_then, clean_value}
use Rattle.pp_plain_laws.proofs.Scope.{one_in_scope, truth_clean}
use Rattle.pp_plain_laws.proofs.Tight.{AreTight, are_tight, measure_few}

none_marked : (n k : ℕ) → marked (replicate n false) k ≡ true → ⊥
none_marked zero k e = cc
none_marked (suc n) zero e = cc
none_marked (suc n) (suc k) e = none_marked n k e

module _ (p : Program) (i : ℕ) (f : Function) (args : List Value) (called : IsCalled p i f args) (c : CheckId) (pp : ℕ)
    (v0 : Value) (param : slice_get args pp ≡ Some v0)
    (here : Contains (descents_from p.functions pp f) c.0) (calls : CallMeaning) (good : AreGood p (Unit {0}) i calls)
    (clean_none : CallsClean p i c calls None v0)
    (clean_in : (frame : Frame) → frame_of calls f.measure args ≡ Ok frame → CallsClean p i c calls frame v0) where
  abbrev U : Type 0
  U = Unit {0}

  abbrev marks : List Bool
  marks = replicate (length f.params) false

  abbrev scope : List Sort
  scope = param_sorts f.params

  whole_f : IsWhole p i f
  whole_f = whole p i f called.function

  all_tight : AreTight p i f called.function c pp
  all_tight = are_tight p i f called.function c pp here

  -- in a frame
  abbrev in_frame : (frame : Frame) → CallsClean p i c calls frame v0 → Setting
  in_frame frame clean = record {
    p = p;
    i = i;
    c = c;
    calls0 = calls;
    good = good;
    old = frame;
    pp = pp;
    v0 = v0;
    calls_clean = clean;
  }

  none_expr : (e : Expr) → IsExpr (in_frame None clean_none) e
  none_expr e = expr_clean (in_frame None clean_none) e

  -- ---- the parts don't fail the check

  as_long : (ss : List Sort) (vs : List Value) → Have p.types.ctors ss vs → length ss ≡ length vs
  as_long [] [] h = refl
  as_long [] (v ∷ vs) h = cc
  as_long (s ∷ ss) [] h = cc
  as_long (s ∷ ss) (v ∷ vs) h = omega (arith, as_long ss vs (and_parts (has_sort p.types.ctors v s) _ h).1)

  inside : AreInScope pp v0 marks args
  inside = record {
    size =
        omega (
          arith,
          length-replicate (length f.params) false,
          length-map f.params sort_of_param,
          as_long scope args
              called.arguments,
        );
    param = param;
    below = λ k w m at. absurd (none_marked (length f.params) k m);
  }

  allowed_clean : (pre : Option Expr) → is_sorted_pre p.types p.functions pre scope ≡ true
      → AreMet p i (pre_sites p.types p.functions pre scope)
      → count c.0 (pre_descents p.functions pp pre marks) ≡ places c.0 (pre_sites p.types p.functions pre scope)
      → IsClean c (allowed calls pre args)
  allowed_clean None sorted met tight = clean_value
  allowed_clean (Some pre) sorted met tight =
      clean_then truth ((none_expr pre).clean scope sort.Bool (has_the_sort_is p.types p.functions sort.Bool _ sorted)
      met args called.arguments marks inside tight)
      (λ v at. truth_clean c v)

  measures_clean : (es : List Expr) → is_sorted_measure p.types p.functions es scope ≡ true
      → AreMet p i (measure_sites p.types p.functions es scope)
      → count c.0 (in_all (map (seen p.functions pp) es) marks) ≡ places c.0
      (measure_sites p.types p.functions es scope)
      → (done : List Value) → IsClean c (all_from done (map (meaning calls) es) None args)
  measures_clean [] sorted met tight done = clean_value
  measures_clean (e ∷ es) sorted met tight done =
      let h = and_parts (is_some (sort_of p.types p.functions e scope)) _ sorted in
      let s = some_sort (sort_of p.types p.functions e scope) h.0 in
      let one = (none_expr e).few scope s.0 s.1 marks in
      let more = measure_few p i f called.function c pp es h.1 in
      let a = count_append c.0 ((seen p.functions pp e).1 marks) (in_all (map (seen p.functions pp) es) marks) in
      let b = places_append c.0 (sites p.types p.functions e scope) (measure_sites p.types p.functions es scope) in
      clean_then _ ((none_expr e).clean scope s.0 s.1 (met_left _ _ met) args called.arguments marks inside
      (omega (arith, one, more, a, b, tight)))
      (λ v at. measures_clean es h.1 (met_right _ _ met) (omega (arith, one, more, a, b, tight)) (done ++ v ∷ []))

  frame_clean : (es : List Expr) → is_sorted_measure p.types p.functions es scope ≡ true
      → AreMet p i (measure_sites p.types p.functions es scope)
      → count c.0 (in_all (map (seen p.functions pp) es) marks) ≡ places c.0
      (measure_sites p.types p.functions es scope)
      → IsClean c (frame_of calls es args)
  frame_clean [] sorted met tight = clean_value
  frame_clean (e ∷ es) sorted met tight =
      clean_then _ (measures_clean (e ∷ es) sorted met tight []) (λ vs at. clean_value)

  module _ (frame : Frame) (framed : frame_of calls f.measure args ≡ Ok frame) where
    frame_expr : (e : Expr) → IsExpr (in_frame frame (clean_in frame framed)) e
    frame_expr e = expr_clean (in_frame frame (clean_in frame framed)) e

    finished_clean : (post : Option (CheckId × Expr))
        → is_sorted_post p.types p.functions post (scope ++ f.result ∷ []) ≡ true
        → AreMet p i (post_sites p.types p.functions post f.result scope)
        → count c.0 (post_descents p.functions pp post marks) ≡ places c.0
        (post_sites p.types p.functions post f.result scope)
        → (v : Value) → Has p.types.ctors f.result v → IsClean c (finished calls post frame args v)
    finished_clean None sorted met tight v has = clean_value
    finished_clean (Some post) sorted met tight v has =
        let is_bool = has_the_sort_is p.types p.functions sort.Bool (sort_of p.types p.functions post.1
        (scope ++ f.result ∷ [])) sorted in
        let few = (frame_expr post.1).few (scope ++ f.result ∷ []) sort.Bool is_bool (marks ++ false ∷ []) in
        let b = places_append c.0 (sites p.types p.functions post.1 (scope ++ f.result ∷ []))
        (postcondition post.0 ∷ []) in
        let other = uncounted c.0 kind.Postcondition (Some post.0) c refl (omega (arith, few, b, tight)) in
        clean_then _ ((frame_expr post.1).clean (scope ++ f.result ∷ []) sort.Bool is_bool (met_left _ _ met)
        (args ++ v ∷ [])
        (have_more p.types.ctors scope (f.result ∷ []) args (v ∷ []) called.arguments
        (have_one p.types.ctors f.result v has))
        (marks ++ false ∷ []) (one_in_scope pp v0 marks args v inside) (omega (arith, few, b, tight)))
        (λ x at. clean_then _ (truth_clean c x) (λ t is. clean_either t clean_value
        (clean_stop (λ e. let one : post.0 ≡ c = cc in other (ap Some one)))))

    body_clean : IsClean c (and_then (meaning calls f.body frame args) (λ v. finished calls f.post frame args v))
    body_clean =
        let w = whole_f in
        clean_then _ ((frame_expr f.body).clean scope f.result w.body_sorted w.body_met args called.arguments marks
        inside all_tight.body)
        (λ v at. finished_clean f.post w.post_sorted w.post_met all_tight.post v
        (told_value (expr_sound p U i calls good f.body scope f.result w.body_sorted w.body_met frame args
        called.arguments) v at))

  -- a run over these calls doesn't fail the check
  pub run_clean : IsClean c (run_with calls f args)
  run_clean =
      let w = whole_f in
      clean_then _ (allowed_clean f.pre w.pre_sorted w.pre_met all_tight.pre)
      (λ allows is. clean_either allows
      (clean_then _ (frame_clean f.measure w.measure_sorted w.measure_met all_tight.measure)
      (λ frame framed. body_clean frame framed))
      clean_value)
