-- A run of a valid program's function on arguments of the parameters' sorts is fine, where calls are good.
use Rattle.std.proofs.Common.{◌≡◌, ℕ, Bool, true, List, [], ◌∷◌, ◌++◌, Option, Some, None, slice_get}
use Rattle.pp_prog.specs.declared.expr.Expr.{Expr}
use Rattle.pp_prog.specs.declared.expr.Function.{Function}
use Rattle.pp_prog.specs.declared.id.CheckId.{CheckId}
use Rattle.pp_prog.specs.declared.program.Program.{Program}
use Rattle.pp_prog.specs.declared.sort.Sort.{Sort}
use Rattle.pp_prog.specs.declared.sort.Sort.TheVariants as sort
use Rattle.pp_prog.specs.declared.value.Value.{Value}
use Rattle.pp_prog.specs.ExprSorts.{is_sorted_post, is_sorted_pre, sort_of}
use Rattle.pp_prog.specs.Listing.{post_sites, pre_sites}
use Rattle.pp_prog.specs.Sorts.{param_sorts}
use Rattle.pp_eval.specs.declared.outcome.Outcome.{Outcome}
use Rattle.pp_eval.specs.declared.outcome.Outcome.TheVariants.{Done, Outside, Fails, Inner, Deep}
use Rattle.pp_eval.specs.Invocation.{allowed}
use Rattle.pp_eval.specs.Meaning.{CallMeaning, Frame}
use Rattle.pp_eval.specs.Runs.{finished, run_with, started}
use Rattle.pp_sound.proofs.Calls.{IsWhole, condition_fine, frame_fine, whole}
use Rattle.pp_prog.proofs.ValueSorts.{Has, Have, have_more, have_one}
use Rattle.pp_sound.proofs.Exprs.{AreGood, expr_sound}
use Rattle.pp_sound.proofs.Operators.{judged}
use Rattle.pp_sound.proofs.Parts.{IsAny, IsFine, MayStop, fine_either, fine_stop, fine_then, fine_value}
use Rattle.pp_sound.proofs.Sites.{AreMet, met_head, met_left, met_right}
use Rattle.pp_prog.proofs.PartSorts.{has_the_sort_is}

-- a run that no check stops is done with a value of the sort, or isn't allowed
abbrev pub IsEnd : Program → Sort → Outcome → Type 0
IsEnd p s (Done v) = Has p.types.ctors s v
IsEnd p s Outside = Unit {0}
IsEnd p s (Fails c) = ⊥
IsEnd p s (Inner g c) = ⊥
IsEnd p s Deep = ⊥

module _ (p : Program) (D : Type 0) (i : ℕ) (calls : CallMeaning) (good : AreGood p D i calls) where
  allowed_fine : (pre : Option Expr) (scope : List Sort) → is_sorted_pre p.types p.functions pre scope ≡ true
      → AreMet p i (pre_sites p.types p.functions pre scope) → (args : List Value) → Have p.types.ctors scope args
      → IsFine (MayStop p D i) (IsAny {A = Bool}) (allowed calls pre args)
  allowed_fine None scope sorted met args have = fine_value tt
  allowed_fine (Some pre) scope sorted met args have = condition_fine p D i calls good pre scope sorted met None args
      have

  finished_fine : (post : Option (CheckId × Expr)) (scope : List Sort) (s : Sort)
      → is_sorted_post p.types p.functions post (scope ++ s ∷ []) ≡ true
      → AreMet p i (post_sites p.types p.functions post s scope)
      → (frame : Frame) (args : List Value) → Have p.types.ctors scope args → (v : Value) → Has p.types.ctors s v
      → IsFine (MayStop p D i) (IsEnd p s) (finished calls post frame args v)
  finished_fine None scope s sorted met frame args have v has = fine_value has
  finished_fine (Some post) scope s sorted met frame args have v has =
      let is = has_the_sort_is p.types p.functions sort.Bool (sort_of p.types p.functions post.1 (scope ++ s ∷ []))
      sorted in
      let all_have = have_more p.types.ctors scope (s ∷ []) args (v ∷ []) have (have_one p.types.ctors s v has) in
      judged p D i (expr_sound p D i calls good post.1 (scope ++ s ∷ []) sort.Bool is (met_left _ _ met) frame
      (args ++ v ∷ []) all_have)
      (λ t. fine_either t (fine_value has) (fine_stop (met_head (met_right _ _ met)).own))

  started_fine : (f : Function) → IsWhole p i f → (args : List Value) → Have p.types.ctors (param_sorts f.params) args
      → IsFine (MayStop p D i) (IsEnd p f.result) (started calls f args)
  started_fine f w args have =
      let scope = param_sorts f.params in
      fine_then (frame_fine p D i calls good f.measure scope w.measure_sorted w.measure_met args have)
      (λ frame _. fine_then (expr_sound p D i calls good f.body scope f.result w.body_sorted w.body_met frame args have)
      (λ v has. finished_fine f.post scope f.result w.post_sorted w.post_met frame args have v has))

  pub run_fine : (f : Function) → slice_get p.functions i ≡ Some f → (args : List Value)
      → Have p.types.ctors (param_sorts f.params) args → IsFine (MayStop p D i) (IsEnd p f.result)
      (run_with calls f args)
  run_fine f is args have =
      let w = whole p i f is in
      fine_then (allowed_fine f.pre (param_sorts f.params) w.pre_sorted w.pre_met args have)
      (λ allows _. fine_either allows (started_fine f w args have) (fine_value tt))
