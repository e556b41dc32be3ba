-- Calls of a valid program's functions are good, however deep they are nested, where those that are nested too deep
-- are.
use Rattle.std.proofs.Common.{◌≡◌, ℕ, zero, suc, ◌<◌, Bool, true, List, [], ◌∷◌, ◌++◌, map, length, Option, Some, None}
use Rattle.std.proofs.Common.{is_some, slice_get, sym, ap, ◌∙◌, subst}
use Rattle.std.specs.Prelude.{⊤}
use Rattle.std.proofs.lemmas.Bool.{and_parts}
use Rattle.std.proofs.lemmas.Option.{slice_get_within}
use Rattle.pp_prog.specs.declared.expr.Expr.{Expr}
use Rattle.pp_prog.specs.declared.expr.Function.{Function}
use Rattle.pp_prog.specs.declared.id.CheckId.{CheckId}
use Rattle.pp_prog.specs.declared.id.FunctionId.{FunctionId}
use Rattle.pp_prog.specs.declared.program.Program.{Program}
use Rattle.pp_prog.specs.declared.sort.Sort.{Sort}
use Rattle.pp_prog.specs.declared.sort.Sort.TheVariants as sort
use Rattle.pp_prog.specs.declared.value.Value.{Value}
use Rattle.pp_prog.specs.ExprSorts.{is_of_sort, is_sorted_measure, is_sorted_post, is_sorted_pre, sort_of}
use Rattle.pp_prog.specs.Listing.{measure, measure_sites, post_sites, pre_sites, precondition, sites}
use Rattle.pp_prog.specs.Sorts.{param_sorts}
use Rattle.pp_prog.specs.Valid.{has_precondition}
use Rattle.pp_eval.specs.Invocation.{admits, calls_over, descends, enters, frame_of}
use Rattle.pp_eval.specs.Measure.{is_below}
use Rattle.pp_eval.specs.Meaning.{CallMeaning, Frame, all_from, meaning}
use Rattle.pp_eval.specs.Operators.{truth}
use Rattle.pp_eval.specs.Part.{and_then}
use Rattle.pp_prog.proofs.ValueSorts.{Have}
use Rattle.pp_sound.proofs.Exprs.{AreGood, expr_sound}
use Rattle.pp_sound.proofs.Listed.{function_met, function_sorted}
use Rattle.pp_sound.proofs.Operators.{condition}
use Rattle.pp_sound.proofs.Parts.{IsAny, IsFine, IsOwn, IsSorted, MayStop, fine_either, fine_failed, fine_inside}
use Rattle.pp_sound.proofs.Parts.{fine_stop, fine_then, fine_value}
use Rattle.pp_sound.proofs.Sites.{AreMet, IsMet, met_left, met_right}
use Rattle.pp_prog.proofs.PartSorts.{has_the_sort_is, some_sort}

-- what holds of function number i: its parts have their sorts, and the sites of each are met
pub record IsWhole (p : Program) (i : ℕ) (f : Function) : Type 0 where
  pub pre_sorted : is_sorted_pre p.types p.functions f.pre (param_sorts f.params) ≡ true
  pub pre_met : AreMet p i (pre_sites p.types p.functions f.pre (param_sorts f.params))
  pub measure_sorted : is_sorted_measure p.types p.functions f.measure (param_sorts f.params) ≡ true
  pub measure_met : AreMet p i (measure_sites p.types p.functions f.measure (param_sorts f.params))
  pub body_sorted : sort_of p.types p.functions f.body (param_sorts f.params) ≡ Some f.result
  pub body_met : AreMet p i (sites p.types p.functions f.body (param_sorts f.params))
  pub post_sorted : is_sorted_post p.types p.functions f.post (param_sorts f.params ++ f.result ∷ []) ≡ true
  pub post_met : AreMet p i (post_sites p.types p.functions f.post f.result (param_sorts f.params))

pub whole : (p : Program) (i : ℕ) (f : Function) → slice_get p.functions i ≡ Some f → IsWhole p i f
whole p i f is =
    let scope = param_sorts f.params in
    let pre = and_parts (is_sorted_pre p.types p.functions f.pre scope) _ (function_sorted p i f is) in
    let measures = and_parts (is_sorted_measure p.types p.functions f.measure scope) _ pre.1 in
    let body = and_parts (is_of_sort p.types p.functions f.result scope f.body) _ measures.1 in
    let met = function_met p i f is in
    record {
      pre_sorted = pre.0;
      pre_met = met_left _ _ (met_left _ _ (met_left _ _ met));
      measure_sorted = measures.0;
      measure_met = met_right _ _ (met_left _ _ (met_left _ _ met));
      body_sorted = has_the_sort_is p.types p.functions f.result (sort_of p.types p.functions f.body scope) body.0;
      body_met = met_right _ _ (met_left _ _ met);
      post_sorted = body.1;
      post_met = met_right _ _ met;
    }

module _ (p : Program) (D : Type 0) (i : ℕ) (calls : CallMeaning) (good : AreGood p D i calls) where
  -- a condition of function number i comes to a truth value
  pub condition_fine : (e : Expr) (scope : List Sort) → is_of_sort p.types p.functions sort.Bool scope e ≡ true
      → AreMet p i (sites p.types p.functions e scope) → (frame : Frame) (env : List Value)
      → Have p.types.ctors scope env
      → IsFine (MayStop p D i) (IsAny {A = Bool}) (and_then (meaning calls e frame env) truth)
  condition_fine e scope sorted met frame env have =
      condition p D i (meaning calls e frame env) (expr_sound p D i calls good e scope sort.Bool
      (has_the_sort_is p.types p.functions sort.Bool (sort_of p.types p.functions e scope) sorted) met frame env
      have)

  measures_fine : (es : List Expr) (scope : List Sort) → is_sorted_measure p.types p.functions es scope ≡ true
      → AreMet p i (measure_sites p.types p.functions es scope) → (env : List Value) → Have p.types.ctors scope env
      → (done : List Value)
      → IsFine (MayStop p D i) (IsAny {A = List Value}) (all_from done (map (meaning calls) es) None env)
  measures_fine [] scope sorted met env have done = fine_value tt
  measures_fine (e ∷ es) scope sorted met env have done =
      let h = and_parts (is_some (sort_of p.types p.functions e scope)) _ sorted in
      let s = some_sort (sort_of p.types p.functions e scope) h.0 in
      fine_then (expr_sound p D i calls good e scope s.0 s.1 (met_left _ _ met) None env have)
      (λ v has. measures_fine es scope h.1 (met_right _ _ met) env have (done ++ v ∷ []))

  -- the measure list of function number i comes to a frame
  pub frame_fine : (es : List Expr) (scope : List Sort) → is_sorted_measure p.types p.functions es scope ≡ true
      → AreMet p i (measure_sites p.types p.functions es scope) → (env : List Value) → Have p.types.ctors scope env
      → IsFine (MayStop p D i) (IsAny {A = Frame}) (frame_of calls es env)
  frame_fine [] scope sorted met env have = fine_value tt
  frame_fine (e ∷ es) scope sorted met env have = fine_then (measures_fine (e ∷ es) scope sorted met env have [])
      (λ vs _. fine_value tt)

module _ (p : Program) (D : Type 0) (i : ℕ) where
  descends_fine : (check : Option CheckId) (old new : Frame) → IsOwn p i check
      → IsFine (MayStop p D i) (IsAny {A = ⊤}) (descends p.types.ctors check old new)
  descends_fine None old new own = fine_value tt
  descends_fine (Some c) None new own = fine_value tt
  descends_fine (Some c) (Some old) None own = fine_value tt
  descends_fine (Some c) (Some old) (Some new) own = fine_either (is_below p.types.ctors new old) (fine_value tt)
      (fine_stop own)

  module _ (calls : CallMeaning) (g : FunctionId) (good : AreGood p D g.0 calls) (within : g.0 < length p.functions)
    where
      admits_fine : (pre : Option Expr) (check : Option CheckId) (scope : List Sort)
          → is_sorted_pre p.types p.functions pre scope ≡ true → AreMet p g.0 (pre_sites p.types p.functions pre scope)
          → is_some check ≡ is_some pre → IsOwn p i check → (args : List Value) → Have p.types.ctors scope args
          → IsFine (MayStop p D i) (IsAny {A = ⊤}) (admits calls g pre check args)
      admits_fine None check scope sorted met some own args have = fine_value tt
      admits_fine (Some pre) check scope sorted met some own args have =
          fine_then (fine_inside p D i g within (condition_fine p D g.0 calls good pre scope sorted met None args have))
          (λ t _. fine_either t (fine_value tt) (fine_failed p D i check some own))

      enters_fine : (f : Function) → slice_get p.functions g.0 ≡ Some f
          → (frame : Frame) (pre down : Option CheckId) (args : List Value)
          → Have p.types.ctors (param_sorts f.params) args
          → IsMet p i (precondition g pre) → IsMet p i (measure g down)
          → IsSorted p D i f.result (enters calls p.types.ctors (Some f) frame g pre down args)
      enters_fine f is frame pre down args have pre_site down_site =
          let w = whole p g.0 f is in
          let scope = param_sorts f.params in
          fine_then (admits_fine f.pre pre scope w.pre_sorted w.pre_met (pre_site.carries ∙ ap has_precondition is)
          pre_site.own args have)
          (λ _ _. fine_then (fine_inside p D i g within (frame_fine p D g.0 calls good f.measure scope w.measure_sorted
          w.measure_met args have))
          (λ new _. fine_then (descends_fine down frame new down_site.own)
          (λ _ _. fine_inside p D i g within
          (expr_sound p D g.0 calls good f.body scope f.result w.body_sorted w.body_met new args have))))

-- calls nested at most n deep are good, where those that are nested deeper are
pub calls_good : (p : Program) (D : Type 0) (deeper : CallMeaning) → ((i : ℕ) → AreGood p D i deeper) → (n i : ℕ)
    → AreGood p D i (calls_over deeper p.types.ctors p.functions n)
calls_good p D deeper good zero i = record { part = (good i).part }
calls_good p D deeper good (suc n) i = record {
  part = λ frame g pre down args f is have pre_site down_site.
      let calls = calls_over deeper p.types.ctors p.functions n in
      subst (λ (o : Option Function). IsSorted p D i f.result (enters calls p.types.ctors o frame g pre down args))
      (sym is)
      (enters_fine p D i calls g (calls_good p D deeper good n g.0) (slice_get_within p.functions g.0 f is) f is frame
      pre down args have pre_site down_site);
}
