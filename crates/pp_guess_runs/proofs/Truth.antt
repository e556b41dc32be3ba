-- Answers that are true.
use Rattle.std.proofs.Common.{◌≡◌, ◌≤◌, ℕ, zero, suc, Bool, true, false, List, Option, Some, None, Ok, Err, slice_get}
use Rattle.std.proofs.Common.{refl, sym, ap, ◌∙◌}
use Rattle.pp_prog.specs.declared.expr.Function.{Function}
use Rattle.pp_prog.specs.declared.id.CheckId.{CheckId}
use Rattle.pp_prog.specs.declared.id.FunctionId.{FunctionId}
use Rattle.pp_prog.specs.declared.types.Ctor.{Ctor}
use Rattle.pp_prog.specs.declared.value.Value.{Value}
use Rattle.pp_eval.specs.declared.outcome.Outcome.TheVariants.{Done}
use Rattle.pp_eval.specs.declared.outcome.Stop.TheVariants as stop
use Rattle.pp_eval.specs.Invocation.{admits}
use Rattle.pp_eval.specs.Equality.{equal}
use Rattle.pp_eval.specs.Meaning.{CallMeaning, Frame, meaning}
use Rattle.pp_eval.specs.Part.{Part, and_then, either, inside}
use Rattle.pp_eval.specs.Runs.{run_at}
use Rattle.pp_eval.proofs.Lasts.{lasts}
use Rattle.pp_eval.proofs.Trees.{equal_same}
use Rattle.pp_guess_runs.specs.Answers.{answers_of, truth, value_done}
use Rattle.pp_guess_runs.specs.Guess.{agreed, called, compared, held, or_deep, own_call, unfolded}
use Rattle.pp_guess_runs.specs.Laws.{TruthAgrees, TruthGrows}

-- a part that goes on to a value has one
pub then_value : {A B : Type 0} (part : Part A) (go : A → Part B) (b : B) → and_then part go ≡ Ok b
    → (a : A) × (part ≡ Ok a) × (go a ≡ Ok b)
then_value (Ok a) go b e = (a, refl, e)
then_value (Err s) go b e = cc

pub inside_value : {A : Type 0} (g : FunctionId) (part : Part A) (a : A) → inside g part ≡ Ok a → part ≡ Ok a
inside_value g (Ok b) a e = e
inside_value g (Err s) a e = cc

agreed_value : (w v u : Value) → agreed (Some w) v ≡ Ok u → u ≡ w
agreed_value w v u e = by (equal w v) refl e
  where
    by : (t : Bool) → equal w v ≡ t → either t (Ok v) (Err stop.Deep) ≡ Ok u → u ≡ w
    by true is e = let same : v ≡ u = cc in sym same ∙ sym (equal_same w v is)
    by false is e = cc

module _ (ctors : List Ctor) (fs : List Function) (n : ℕ) (g : FunctionId) (args : List Value) (v w : Value) where
  unfolded_value : (calls : CallMeaning) (o : Option Function) → unfolded calls (Some w) o g args ≡ Ok v → v ≡ w
  unfolded_value calls None e = cc
  unfolded_value calls (Some f) e =
      let b = then_value (meaning calls f.body None args) (λ u. and_then (held calls f.post args u) (agreed (Some w)))
      v (inside_value g _ v e) in
      let h = then_value (held calls f.post args b.0) (agreed (Some w)) v b.2 in
      agreed_value w h.0 v h.2

  answered : run_at ctors fs (slice_get fs g.0) args n ≡ Done w → answers_of ctors fs (truth n) g args ≡ Some w
  answered e = ap value_done e

  called_value : run_at ctors fs (slice_get fs g.0) args n ≡ Done w
      → (m : ℕ) (frame : Frame) (pre down : Option CheckId)
      → called fs (answers_of ctors fs (truth n)) m frame g pre down args ≡ Ok v → v ≡ w
  called_value e zero frame pre down h = let same : Ok v ≡ Ok w = sym h ∙ ap or_deep (answered e) in cc
  called_value e (suc m) frame pre down h =
      unfolded_value (called fs (answers_of ctors fs (truth n)) m) (slice_get fs g.0)
      (sym (ap (λ o. unfolded (called fs (answers_of ctors fs (truth n)) m) o (slice_get fs g.0) g args) (answered e))
      ∙ h)

  own_value : run_at ctors fs (slice_get fs g.0) args n ≡ Done w
      → (c : CheckId) (m : ℕ) (o : Option Function) (contracts : CallMeaning) (frame : Frame)
      (pre down : Option CheckId)
      → own_call ctors c contracts (called fs (answers_of ctors fs (truth n)) m) o frame g pre down args ≡ Ok v → v ≡ w
  own_value e c m None contracts frame pre down h = cc
  own_value e c m (Some f) contracts frame pre down h =
      let a = then_value (admits contracts g f.pre pre args) _ v h in
      let b = then_value (compared ctors c contracts f.measure g down frame args)
      (λ _. called fs (answers_of ctors fs (truth n)) m frame g pre down args) v a.2 in
      called_value e m frame pre down b.2

pub truth_agrees : TruthAgrees
truth_agrees = record {
  from_called = λ ctors fs n m frame g pre down args v w e h. called_value ctors fs n g args v w e m frame pre down h;
  from_own =
      λ ctors fs n m c frame g pre down args v w e h. own_value ctors fs n g args v w e c m (slice_get fs g.0) _ frame
      pre down h;
}

module _ (ctors : List Ctor) (fs : List Function) (n m : ℕ) (le : n ≤ m) where
  value_lasts : (o : Option Function) (args : List Value) (v : Value) → value_done (run_at ctors fs o args n) ≡ Some v
      → value_done (run_at ctors fs o args m) ≡ Some v
  value_lasts None args v e = cc
  value_lasts (Some f) args v e =
      ap value_done (lasts ctors fs f args n m le (λ d. none (sym (ap value_done d) ∙ e))) ∙ e
    where
      none : None ≡ Some v → ⊥
      none e = cc

pub truth_grows : TruthGrows
truth_grows ctors fs n m le g args v e = value_lasts ctors fs n m le (slice_get fs g.0) args v e
