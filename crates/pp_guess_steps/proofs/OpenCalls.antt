-- An open call tells what its answer is.
use Rattle.std.proofs.Common.{◌≡◌, ℕ, suc, Bool, true, false, List, Option, Some, None, refl, ap}
use Rattle.std.proofs.Common.{◌∙◌}
use Rattle.std.specs.Prelude.{slice_get, ◌&&◌}
use Rattle.pp_prog.specs.declared.expr.Function.{Function}
use Rattle.pp_prog.specs.declared.id.CheckId.{CheckId}
use Rattle.pp_prog.specs.declared.id.FunctionId.{FunctionId}
use Rattle.pp_prog.specs.declared.types.Ctor.{Ctor}
use Rattle.pp_prog.specs.declared.value.Value.{Value}
use Rattle.pp_eval.specs.Meaning.{CallMeaning, Frame}
use Rattle.pp_guess_runs.specs.Guess.{or_deep}
use Rattle.pp_steps.specs.Frames.{result_of}
use Rattle.pp_steps.specs.Guesses.{asking, open_call, params_of}
use Rattle.pp_steps.specs.Meaning.{Missing, Values, answer_of, bit, is_answered}
use Rattle.pp_guess_steps.specs.OpenCalls.{answered}
use Rattle.pp_steps_run.specs.Told.{AreValues, IsMade, IsQuiet, IsTold, IsValue, Off, On}
use Rattle.pp_steps_run.proofs.Lists.{IsSite, values_are}
use Rattle.pp_steps_run.proofs.Pieces.{bit_truth}

and_off : (a b : Bool) → a ≡ false → (a && b) ≡ false
and_off true b h = cc
and_off false b h = refl

module _ (ctors : List Ctor) (missing : Missing) (ρ : Values) (functions : List Function)
    (wait : ℕ) where
  module _ (k reach : ℕ) (g : FunctionId) (pre down : Option CheckId) (args : List ℕ)
      (h : IsMade ctors missing ρ k (asking functions wait k reach g pre down args)) where
    both_is : bit (ρ (suc (suc k))) ≡ (bit (ρ reach) && bit (ρ k))
    both_is = ap bit h.steps.1.1.0 ∙ bit_truth (bit (ρ reach) && bit (ρ k))

    asking_quiet : Off ρ reach → IsQuiet ρ (asking functions wait k reach g pre down args)
    asking_quiet off = record { alive = both_is ∙ and_off (bit (ρ reach)) (bit (ρ k)) off; fails = tt }

    asking_by : (asked : Option CheckId) → On ρ reach → (o : Option Value)
        → answer_of missing ρ (open_call functions wait reach g args) ≡ o
        → IsTold ρ asked (IsValue ρ) (asking functions wait k reach g pre down args) (or_deep o)
    asking_by asked on None e =
        let has : bit (ρ k) ≡ false = ap bit (h.steps.0 on) ∙ bit_truth _ ∙ ap is_answered e in
        record { told = (both_is ∙ ap (λ b. b && bit (ρ k)) on ∙ has, tt) }
    asking_by asked on (Some v) e =
        let has : bit (ρ k) ≡ true = ap bit (h.steps.0 on) ∙ bit_truth _ ∙ ap is_answered e in
        record { told = (both_is ∙ ap (λ b. b && bit (ρ k)) on ∙ has, tt, h.steps.1.0 on v e) }

    asking_told : (asked : Option CheckId) → On ρ reach → (vs : List Value) → AreValues ρ args vs
        → IsTold ρ asked (IsValue ρ) (asking functions wait k reach g pre down args)
        (answered functions missing wait None g None None vs)
    asking_told asked on vs are = asking_by asked on _
        (ap (missing.answer wait g (params_of (slice_get functions g.0)) (result_of (slice_get functions g.0)))
        (values_are ρ args vs are))

  pub asking_site : (asked : Option CheckId) (frame : Frame) (full : CallMeaning)
      → IsSite ctors missing ρ asked frame (asking functions wait) (answered functions missing wait) full
  asking_site asked frame full = record {
    quiet = λ k reach g pre down args h off. asking_quiet k reach g pre down args h off;
    told = λ k reach g pre down args h on vs are lasts. asking_told k reach g pre down args h asked on vs are;
  }
