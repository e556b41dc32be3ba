-- Calls from the own frame of a guess run are good where those of contracts and those of called frames are.
use Rattle.std.proofs.Common.{◌≡◌, ◌<◌, ◌∙◌, ℕ, true, List, Option, Some, None, is_some, length, slice_get}
use Rattle.std.proofs.Common.{sym, ap, subst}
use Rattle.std.specs.Prelude.{⊤}
use Rattle.std.proofs.lemmas.Option.{slice_get_within}
use Rattle.pp_prog.specs.declared.expr.Expr.{Expr}
use Rattle.pp_prog.specs.declared.expr.Function.{Function}
use Rattle.pp_prog.specs.declared.id.CheckId.{CheckId}
use Rattle.pp_prog.specs.declared.id.FunctionId.{FunctionId}
use Rattle.pp_prog.specs.declared.program.Program.{Program}
use Rattle.pp_prog.specs.declared.value.Value.{Value}
use Rattle.pp_prog.specs.ExprSorts.{is_sorted_pre}
use Rattle.pp_prog.specs.Listing.{pre_sites}
use Rattle.pp_prog.specs.Sorts.{param_sorts}
use Rattle.pp_prog.specs.Valid.{has_precondition}
use Rattle.pp_prog.proofs.ValueSorts.{Have}
use Rattle.pp_eval.specs.Invocation.{admits, descends}
use Rattle.pp_eval.specs.Measure.{is_below}
use Rattle.pp_eval.specs.Meaning.{CallMeaning, Frame}
use Rattle.pp_sound.proofs.Calls.{condition_fine, frame_fine, whole}
use Rattle.pp_sound.proofs.Exprs.{AreGood}
use Rattle.pp_sound.proofs.Parts.{IsAny, IsFine, IsOwn, IsSorted, MayStop, fine_either, fine_failed, fine_inside}
use Rattle.pp_sound.proofs.Parts.{fine_stop, fine_then, fine_value}
use Rattle.pp_sound.proofs.Sites.{AreMet}
use Rattle.pp_guess_runs.specs.Guess.{compared, is_check, own_call}

module _ (p : Program) (D : Type 0) (contracts outer : CallMeaning)
    (contracts_good : (i : ℕ) → AreGood p D i contracts) (outer_good : (i : ℕ) → AreGood p D i outer) where
  descends_fine : (i : ℕ) (check : Option CheckId) (old new : Frame) → IsOwn p i check
      → IsFine (MayStop p D i) (IsAny {A = ⊤}) (descends p.types.ctors check old new)
  descends_fine i None old new mine = fine_value tt
  descends_fine i (Some c) None new mine = fine_value tt
  descends_fine i (Some c) (Some old) None mine = fine_value tt
  descends_fine i (Some c) (Some old) (Some new) mine =
      fine_either (is_below p.types.ctors new old) (fine_value tt) (fine_stop mine)

  module _ (i : ℕ) (g : FunctionId) (f : Function) (is : slice_get p.functions g.0 ≡ Some f) (args : List Value)
      (have : Have p.types.ctors (param_sorts f.params) args) where
    within : g.0 < length p.functions
    within = slice_get_within p.functions g.0 f is

    admits_fine : (pre : Option Expr) (check : Option CheckId)
        → is_sorted_pre p.types p.functions pre (param_sorts f.params) ≡ true
        → AreMet p g.0 (pre_sites p.types p.functions pre (param_sorts f.params)) → is_some check ≡ is_some pre
        → IsOwn p i check
        → IsFine (MayStop p D i) (IsAny {A = ⊤}) (admits contracts g pre check args)
    admits_fine None check sorted met some mine = fine_value tt
    admits_fine (Some pre) check sorted met some mine =
        fine_then (fine_inside p D i g within (condition_fine p D g.0 contracts (contracts_good g.0) pre
        (param_sorts f.params) sorted met None args have))
        (λ t _. fine_either t (fine_value tt) (fine_failed p D i check some mine))

    compared_fine : (c : CheckId) (down : Option CheckId) (frame : Frame) → IsOwn p i down
        → IsFine (MayStop p D i) (IsAny {A = ⊤}) (compared p.types.ctors c contracts f.measure g down frame args)
    compared_fine c down frame mine =
        let w = whole p g.0 f is in
        fine_either (is_check c down)
        (fine_then (fine_inside p D i g within (frame_fine p D g.0 contracts (contracts_good g.0) f.measure
        (param_sorts f.params) w.measure_sorted w.measure_met args have))
        (λ new _. descends_fine i down frame new mine)) (fine_value tt)

  pub own_calls_good : (c : CheckId) (i : ℕ)
      → AreGood p D i (λ frame g. own_call p.types.ctors c contracts outer (slice_get p.functions g.0) frame g)
  own_calls_good c i = record {
    part = λ frame g pre down args f is have met_pre met_down.
        let w = whole p g.0 f is in
        subst (λ o. IsSorted p D i f.result (own_call p.types.ctors c contracts outer o frame g pre down args)) (sym is)
        (fine_then (admits_fine i g f is args have f.pre pre w.pre_sorted w.pre_met
        (met_pre.carries ∙ ap has_precondition is) met_pre.own)
        (λ _ _. fine_then (compared_fine i g f is args have c down frame met_down.own)
        (λ _ _. (outer_good i).part frame g pre down args f is have met_pre met_down)));
  }
