-- Open calls bear the sorts of their functions.
use Rattle.std.proofs.Common.{◌≡◌, ℕ, List, [], ◌∷◌, ◌++◌, length, refl}
use Rattle.std.specs.Prelude.{slice_get}
use Rattle.pp_prog.specs.declared.expr.Function.{Function}
use Rattle.pp_prog.specs.declared.id.CheckId.{CheckId}
use Rattle.pp_steps.specs.declared.step.OpenCall.{OpenCall}
use Rattle.pp_steps.specs.declared.step.Step.{Step}
use Rattle.pp_steps.specs.declared.step.Step.TheVariants as steps
use Rattle.pp_steps.specs.Frames.{result_of}
use Rattle.pp_steps.specs.Guesses.{all_unfolded, guess_steps, params_of, standing}
use Rattle.pp_steps_run.specs.Told.{AllOf}
use Rattle.pp_steps_run.proofs.Pieces.{all_join}
use Rattle.pp_guess_steps.proofs.CallsPaired.{IsNoCall, pattern_fits, simple_quiet}
use Rattle.pp_guess_steps.proofs.ClosedAlways.{base_closed, guess_closed, unfolding_closed}
use Rattle.pp_guess_steps.proofs.OwnFrame.{base}

-- the sorts of the call are those of its function
pub record HasLabels (functions : List Function) (c : OpenCall) : Type 0 where
  pub params : c.params ≡ params_of (slice_get functions c.callee.0)
  pub result : c.result ≡ result_of (slice_get functions c.callee.0)

module _ (functions : List Function) where
  abbrev pub IsLabelled : Step → Type 0
  IsLabelled (steps.HasAnswer c) = HasLabels functions c
  IsLabelled (steps.Answer c) = HasLabels functions c
  IsLabelled (steps.Open s) = Unit {0}
  IsLabelled (steps.Int n) = Unit {0}
  IsLabelled (steps.Bool b) = Unit {0}
  IsLabelled (steps.Not a) = Unit {0}
  IsLabelled (steps.Both a b) = Unit {0}
  IsLabelled (steps.Choose c a b) = Unit {0}
  IsLabelled (steps.Unary op a) = Unit {0}
  IsLabelled (steps.Binary op a b) = Unit {0}
  IsLabelled (steps.Construct c fields) = Unit {0}
  IsLabelled (steps.IsCtor c n a) = Unit {0}
  IsLabelled (steps.CtorField c i a) = Unit {0}
  IsLabelled (steps.Field a i) = Unit {0}
  IsLabelled (steps.IsAlike a b) = Unit {0}
  IsLabelled (steps.GoesDown a b) = Unit {0}

  abbrev pub Labelled : List Step → Type 0
  Labelled = AllOf IsLabelled

  pub one_labelled : (s : Step) → IsNoCall s → Labelled (s ∷ [])
  one_labelled (steps.HasAnswer c) h = absurd h
  one_labelled (steps.Answer c) h = absurd h
  one_labelled (steps.Open s) h = (tt, tt)
  one_labelled (steps.Int n) h = (tt, tt)
  one_labelled (steps.Bool b) h = (tt, tt)
  one_labelled (steps.Not a) h = (tt, tt)
  one_labelled (steps.Both a b) h = (tt, tt)
  one_labelled (steps.Choose c a b) h = (tt, tt)
  one_labelled (steps.Unary op a) h = (tt, tt)
  one_labelled (steps.Binary op a b) h = (tt, tt)
  one_labelled (steps.Construct c fields) h = (tt, tt)
  one_labelled (steps.IsCtor c n a) h = (tt, tt)
  one_labelled (steps.CtorField c i a) h = (tt, tt)
  one_labelled (steps.Field a i) h = (tt, tt)
  one_labelled (steps.IsAlike a b) h = (tt, tt)
  one_labelled (steps.GoesDown a b) h = (tt, tt)

  abbrev Any : ℕ → Type 0
  Any w = Unit {0}

  -- the steps of each round
  pub guess_labelled : (f : Function) (c : CheckId) (n : ℕ) → Labelled (guess_steps functions f c n).steps
  guess_labelled f c n =
      guess_closed Labelled (all_join IsLabelled) tt (λ s h. one_labelled s (simple_quiet s h))
      (pattern_fits Labelled (all_join IsLabelled) tt one_labelled) functions Any
      (λ w fit k reach g pre down args. (
        record { params = refl; result = refl },
        (record { params = refl; result = refl }, (tt, tt)),
      )) tt tt (λ w. tt) f c n

  -- those of the own frame
  pub base_labelled : (f : Function) (c : CheckId) → Labelled (base functions f c).steps
  base_labelled f c =
      base_closed Labelled (all_join IsLabelled) tt (λ s h. one_labelled s (simple_quiet s h))
      (pattern_fits Labelled (all_join IsLabelled) tt one_labelled) functions Any
      (λ w fit k reach g pre down args. (
        record { params = refl; result = refl },
        (record { params = refl; result = refl }, (tt, tt)),
      )) tt tt f c

  -- and with the calls that are unfolded behind them
  pub unfolded_labelled : (f : Function) (c : CheckId) (n : ℕ)
      → let g = guess_steps functions f c n in
      Labelled (g.steps ++ (all_unfolded functions n (length g.steps) (standing 0 g.steps)).steps)
  unfolded_labelled f c n =
      let g = guess_steps functions f c n in
      all_join IsLabelled g.steps _ (guess_labelled f c n)
      (unfolding_closed Labelled (all_join IsLabelled) tt (λ s h. one_labelled s (simple_quiet s h))
      (pattern_fits Labelled (all_join IsLabelled) tt one_labelled) functions Any
      (λ w fit k reach g pre down args. (
        record { params = refl; result = refl },
        (record { params = refl; result = refl }, (tt, tt)),
      )) n tt (length g.steps) (standing 0 g.steps))
