-- Over completed answers nothing that a guess run evaluates is too deep or stuck, in a program whose functions are
-- sorted.
use Rattle.std.proofs.Common.{◌≡◌, ◌≢◌, ℕ, true, List, [], ◌∷◌, ◌++◌, Option, Some, None, Ok, Err, refl, sym}
use Rattle.std.proofs.Common.{slice_get, subst}
use Rattle.pp_prog.specs.declared.expr.Expr.{Expr}
use Rattle.pp_prog.specs.declared.expr.Function.{Function}
use Rattle.pp_prog.specs.declared.id.CheckId.{CheckId}
use Rattle.pp_prog.specs.declared.id.FunctionId.{FunctionId}
use Rattle.pp_prog.specs.declared.program.Program.{Program}
use Rattle.pp_prog.specs.declared.value.Value.{Value}
use Rattle.pp_prog.specs.ExprSorts.{is_sorted_post}
use Rattle.pp_prog.specs.Listing.{post_sites}
use Rattle.pp_prog.specs.Sorts.{param_sorts}
use Rattle.pp_prog.proofs.ValueSorts.{Has, Have, have_more, have_one}
use Rattle.pp_eval.specs.declared.outcome.Stop.TheVariants as stop
use Rattle.pp_eval.specs.Meaning.{CallMeaning, meaning}
use Rattle.pp_eval.specs.Operators.{truth}
use Rattle.pp_eval.specs.Part.{Part, and_then}
use Rattle.pp_eval.specs.Runs.{run_with}
use Rattle.pp_sound.specs.Sound.{AnswersSorted}
use Rattle.pp_sound.proofs.Calls.{condition_fine, whole}
use Rattle.pp_sound.proofs.Exprs.{AreGood, expr_sound}
use Rattle.pp_sound.proofs.Laws.{answers_good}
use Rattle.pp_sound.proofs.Parts.{IsFine, IsSorted, MayStop, fine_value}
use Rattle.pp_sound.proofs.Runs.{run_fine}
use Rattle.pp_sound.proofs.Sites.{AreMet, met_left}
use Rattle.pp_guess_runs.specs.Guess.{or_deep}
use Rattle.pp_guess_runs.proofs.OwnCalls.{own_calls_good}
use Rattle.pp_steps.specs.Frames.{result_of}
use Rattle.pp_steps.specs.Guesses.{params_of}
use Rattle.pp_steps.specs.Meaning.{Missing}
use Rattle.pp_guess_steps.specs.Laws.{AnswersHaveSorts, Completes, IsWhole}
use Rattle.pp_guess_steps.specs.OpenCalls.{answered, own_calls}

-- a part that is never too deep is whole
pub whole_of : (p : Program) (i : ℕ) {A : Type 0} {V : A → Type 0} (part : Part A) → IsFine (MayStop p ⊥ i) V part
    → IsWhole part
whole_of p i (Ok a) h = record { deep = λ e. cc; stuck = λ e. cc }
whole_of p i (Err (stop.Fails c)) h = record { deep = λ e. cc; stuck = λ e. cc }
whole_of p i (Err (stop.Inner g c)) h = record { deep = λ e. cc; stuck = λ e. cc }
whole_of p i (Err stop.Deep) h = absurd h.told
whole_of p i (Err stop.Stuck) h = absurd h.told

-- the answer that there is, and otherwise what the call comes to
abbrev filled : Option Value → Part Value → Part Value
filled None part = part
filled (Some v) part = Ok v

filled_or : (o : Option Value) (part : Part Value) → or_deep o ≢ Err stop.Deep → filled o part ≡ or_deep o
filled_or None part h = absurd (h refl)
filled_or (Some v) part h = refl

module _ (p : Program) (deeper : CallMeaning) (sorted : AnswersSorted p deeper) (missing : Missing)
    (answers : AnswersHaveSorts p.types p.functions missing) where
  abbrev found : ℕ → FunctionId → List Value → Option Value
  found wait g args =
      missing.answer wait g (params_of (slice_get p.functions g.0)) (result_of (slice_get p.functions g.0)) args

  -- calls that have the answers that there are, and are completed where there are none
  abbrev pub full : ℕ → CallMeaning
  full wait frame g pre down args = filled (found wait g args) (deeper frame g pre down args)

  pub full_completes : (wait : ℕ) → Completes (answered p.functions missing wait) (full wait)
  full_completes wait frame g pre down args h = filled_or (found wait g args) (deeper frame g pre down args) h

  pub full_good : (wait i : ℕ) → AreGood p ⊥ i (full wait)
  full_good wait i = record {
    part = λ frame g pre down args f is have met_pre met_down. by wait g args f is have (deeper frame g pre down args)
        ((answers_good p deeper sorted i).part frame g pre down args f is have met_pre met_down)
        (found wait g args) refl;
  }
    where
      by : (wait : ℕ) (g : FunctionId) (args : List Value) (f : Function) → slice_get p.functions g.0 ≡ Some f
          → Have p.types.ctors (param_sorts f.params) args → (part : Part Value) → IsSorted p ⊥ i f.result part
          → (o : Option Value) → found wait g args ≡ o → IsSorted p ⊥ i f.result (filled o part)
      by wait g args f is have part fine None e = fine
      by wait g args f is have part fine (Some v) e =
          fine_value (subst (λ o. Has p.types.ctors (result_of o) v) is (answers wait g args v e
          (subst (λ o. Have p.types.ctors (params_of o) args) (sym is) have)))

  module _ (g : FunctionId) (f : Function) (is : slice_get p.functions g.0 ≡ Some f) (wait : ℕ) (args : List Value)
      (have : Have p.types.ctors (param_sorts f.params) args) where
    -- bodies
    pub body_whole : IsWhole (meaning (full wait) f.body None args)
    body_whole =
        let w = whole p g.0 f is in
        whole_of p g.0 (meaning (full wait) f.body None args)
        (expr_sound p ⊥ g.0 (full wait) (full_good wait g.0) f.body (param_sorts f.params) f.result w.body_sorted
        w.body_met None args have)

    -- postconditions
    pub post_whole : (post : CheckId × Expr) → f.post ≡ Some post → (v : Value) → Has p.types.ctors f.result v
        → IsWhole (and_then (meaning (full wait) post.1 None (args ++ v ∷ [])) truth)
    post_whole post e v has =
        let w = whole p g.0 f is in
        let scope = param_sorts f.params in
        let sorts = subst (λ o. is_sorted_post p.types p.functions o (scope ++ f.result ∷ []) ≡ true) e w.post_sorted in
        let met = subst (λ o. AreMet p g.0 (post_sites p.types p.functions o f.result scope)) e w.post_met in
        whole_of p g.0 (and_then (meaning (full wait) post.1 None (args ++ v ∷ [])) truth)
        (condition_fine p ⊥ g.0 (full wait) (full_good wait g.0) post.1 (scope ++ f.result ∷ []) sorts
        (met_left _ _ met) None (args ++ v ∷ [])
        (have_more p.types.ctors scope (f.result ∷ []) args (v ∷ []) have (have_one p.types.ctors f.result v has)))

  -- and the run of the own frame
  pub run_whole : (i : ℕ) (f : Function) → slice_get p.functions i ≡ Some f → (check : CheckId) (args : List Value)
      → Have p.types.ctors (param_sorts f.params) args
      → IsWhole (run_with (own_calls p.types.ctors p.functions check (full 1) (full 0)) f args)
  run_whole i f is check args have =
      whole_of p i (run_with (own_calls p.types.ctors p.functions check (full 1) (full 0)) f args)
      (run_fine p ⊥ i (own_calls p.types.ctors p.functions check (full 1) (full 0)) (record {
        part = (own_calls_good p ⊥ (full 1) (full 0) (full_good 1) (full_good 0) check i).part;
      }) f is args have)
