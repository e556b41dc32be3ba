-- The steps of the own frame of a guess run, which stand in front of those of all rounds: what they tell.
use Rattle.std.proofs.Common.{◌≡◌, ℕ, zero, suc, true, false, List, [], ◌∷◌, ◌++◌, map, Option, Some, None, refl, sym}
use Rattle.std.proofs.Common.{ap, ◌∙◌}
use Rattle.std.proofs.Common.{Ok, Err}
use Rattle.std.specs.Prelude.{slice_get}
use Rattle.std.proofs.lemmas.Bool.{eq-eqb, eqb-true}
use Rattle.pp_prog.specs.declared.expr.Function.{Function}
use Rattle.pp_prog.specs.declared.id.CheckId.{CheckId}
use Rattle.pp_prog.specs.declared.id.FunctionId.{FunctionId}
use Rattle.pp_prog.specs.declared.types.Ctor.{Ctor}
use Rattle.pp_prog.specs.declared.value.Value.{Value}
use Rattle.pp_prog.specs.Sorts.{param_sorts}
use Rattle.pp_eval.specs.declared.outcome.Outcome.{Outcome}
use Rattle.pp_eval.specs.declared.outcome.Stop.TheVariants as stop
use Rattle.pp_eval.specs.Invocation.{descends}
use Rattle.pp_eval.specs.Meaning.{CallMeaning, Frame}
use Rattle.pp_eval.specs.Part.{Part}
use Rattle.pp_eval.specs.Runs.{run_with}
use Rattle.pp_eval.proofs.Extends.{CallsCover, admits_extends, either_extends, frame_extends, inside_extends}
use Rattle.pp_eval.proofs.Extends.{same_extends}
use Rattle.pp_eval.proofs.Extends.{then_extends}
use Rattle.pp_guess_runs.specs.Guess.{is_check}
use Rattle.pp_guess_runs.specs.Guess as run
use Rattle.pp_steps.specs.declared.step.Step.TheVariants as steps
use Rattle.pp_steps.specs.Frames as code
use Rattle.pp_steps.specs.Frames.{any_of, arguments, open_step, running}
use Rattle.pp_steps.specs.Guesses.{GuessSteps, guess_steps, guessing, own_call}
use Rattle.pp_steps.specs.Meaning.{Missing, Obeys, Values, bit}
use Rattle.pp_steps.specs.Piece.{Piece, after, plain}
use Rattle.pp_steps_run.specs.Told.{AreValues, IsMade, IsQuiet, IsTold, IsValue, Off, On}
use Rattle.pp_steps_run.proofs.Calls.{AreSites}
use Rattle.pp_steps_run.proofs.Lasting.{Lasts}
use Rattle.pp_steps_run.proofs.Measures.{IsFrame}
use Rattle.pp_steps_run.proofs.Pieces.{bit_truth, obeys_left, obeys_right}
use Rattle.pp_steps_run.proofs.Runs.{any_is, fails_in, running_fails}
use Rattle.pp_guess_steps.specs.OpenCalls.{answered, own_answered, own_calls}
use Rattle.pp_guess_steps.proofs.OwnCalls.{own_quiet, own_told}

-- ---- the steps

module _ (functions : List Function) (f : Function) (check : CheckId) where
  abbrev pub A : Piece (List ℕ)
  A = arguments (param_sorts f.params)

  abbrev pub n : ℕ
  n = after 0 A

  abbrev pub R : Piece ℕ
  R = running (guessing functions (Some check)) (Some check) f n A.out A.alive

  abbrev pub F : Piece ℕ
  F = any_of R.fails (after n R) A.alive

  abbrev pub base : GuessSteps
  base = record {
    steps = A.steps ++ (R.steps ++ F.steps);
    arguments = A.out;
    fails = F.out;
    true_one = A.alive;
    supposed = [];
  }

  -- in each round the same numbers are asked for
  pub fails_is : (r : ℕ) → (guess_steps functions f check r).fails ≡ F.out
  fails_is zero = refl
  fails_is (suc r) = fails_is r

  pub arguments_are : (r : ℕ) → (guess_steps functions f check r).arguments ≡ A.out
  arguments_are zero = refl
  arguments_are (suc r) = arguments_are r

  pub true_is : (r : ℕ) → (guess_steps functions f check r).true_one ≡ A.alive
  true_is zero = refl
  true_is (suc r) = true_is r

  -- values that obey the steps of a round obey these
  pub base_of : (ctors : List Ctor) (missing : Missing) (ρ : Values) (r : ℕ)
      → Obeys ctors missing ρ 0 (guess_steps functions f check r).steps → Obeys ctors missing ρ 0 base.steps
  base_of ctors missing ρ zero h = obeys_left ctors missing ρ 0 base.steps _ h
  base_of ctors missing ρ (suc r) h =
      let g = guess_steps functions f check r in
      base_of ctors missing ρ r
      (obeys_left ctors missing ρ 0 g.steps _ (obeys_left ctors missing ρ 0 (g.steps ++ _) _ h))

-- ---- what they tell

-- calls from the own frame, over contracts and outer calls that have more values
pub own_cover : (ctors : List Ctor) (c : CheckId) (c1 c0 d1 d0 : CallMeaning) → CallsCover c1 d1 → CallsCover c0 d0
    → (o : Option Function) → CallsCover (run.own_call ctors c c1 c0 o) (run.own_call ctors c d1 d0 o)
own_cover ctors c c1 c0 d1 d0 h1 h0 None frame g pre down vs = tt
own_cover ctors c c1 c0 d1 d0 h1 h0 (Some f) frame g pre down vs =
    then_extends _ _ _ _ (admits_extends c1 d1 h1 g f.pre pre vs)
    (λ u. then_extends _ _ _ _ (either_extends (is_check c down) _ _ _ _
    (then_extends _ _ _ _ (inside_extends g _ _ (frame_extends c1 d1 h1 f.measure vs))
    (λ new. same_extends (descends ctors down frame new))) refl) (λ u2. h0 frame g pre down vs))

module _ (ctors : List Ctor) (functions : List Function) (missing : Missing) (ρ : Values) (check : CheckId)
    (con out : CallMeaning)
    (con_cover : CallsCover (answered functions missing 1) con)
    (out_cover : CallsCover (answered functions missing 0) out)
  where
    abbrev Full : CallMeaning
    Full = own_calls ctors functions check con out

    abbrev Own : CallMeaning
    Own = own_answered ctors functions missing check

    abbrev Made : {A : Type 0} → ℕ → Piece A → Type 0
    Made k x = IsMade ctors missing ρ k x

    module _ (ks : code.Frame) (frame : Frame) (its : IsFrame ctors missing ρ ks frame) where
      site_quiet : (g : FunctionId) (pre down : Option CheckId) (o : Option Function) (k reach : ℕ) (args : List ℕ)
          → Made k (own_call functions (Some check) ks o k reach g pre down args) → Off ρ reach
          → IsQuiet ρ (own_call functions (Some check) ks o k reach g pre down args)
      site_quiet g pre down None k reach args h off =
          record { alive = ap bit h.steps.1.0 ∙ bit_truth false; fails = tt }
      site_quiet g pre down (Some f) k reach args h off =
          own_quiet ctors missing ρ functions check con out con_cover out_cover ks frame its g pre down f k reach args h
          off

      site_told : (g : FunctionId) (pre down : Option CheckId) (o : Option Function) (k reach : ℕ) (args : List ℕ)
          → Made k (own_call functions (Some check) ks o k reach g pre down args) → On ρ reach → (vs : List Value)
          → AreValues ρ args vs → Lasts (run.own_call ctors check con out o frame g pre down vs)
          → IsTold ρ (Some check) (IsValue ρ) (own_call functions (Some check) ks o k reach g pre down args)
          (run.own_call ctors check (answered functions missing 1) (answered functions missing 0) o frame g pre down vs)
      site_told g pre down None k reach args h on vs are lasts =
          record { told = (ap bit h.steps.1.0 ∙ bit_truth false, tt) }
      site_told g pre down (Some f) k reach args h on vs are lasts =
          own_told ctors missing ρ functions check con out con_cover out_cover ks frame its g pre down f k reach args h
          on
          vs are lasts

    are_guessing : AreSites ctors missing ρ (Some check) (guessing functions (Some check)) Own Full
    are_guessing = record {
      cover = λ frame g pre down args. own_cover ctors check _ _ con out con_cover out_cover (slice_get functions g.0)
          frame
          g pre down args;
      site = λ ks frame its. record {
        quiet = λ k reach g pre down args h off. site_quiet ks frame its g pre down (slice_get functions g.0) k reach
            args h
            off;
        told = λ k reach g pre down args h on vs are lasts. site_told ks frame its g pre down (slice_get functions g.0)
            k
            reach args h on vs are lasts;
      };
    }

    module _ (f : Function) (args : List Value) where
      -- the number of `fails` tells whether the run over the answers fails the check, where the run over more answers
      -- is
      -- neither cut off nor stuck
      pub fails_told : Obeys ctors missing ρ 0 (base functions f check).steps → AreValues ρ (A functions f check).out
          args
          → Lasts (run_with Full f args) → bit (ρ (F functions f check).out) ≡ fails_in (Some check)
          (run_with Own f args)
      fails_told h are lasts =
          let a = A functions f check in
          let i = n functions f check in
          let r = R functions f check in
          let e = F functions f check in
          let later = obeys_right ctors missing ρ 0 a.steps (r.steps ++ e.steps) h in
          let o : Piece ℕ = plain (map open_step (param_sorts f.params)) 0 0 in
          let first = obeys_left ctors missing ρ 0 a.steps (r.steps ++ e.steps) h in
          let reached : On ρ a.alive =
          ap bit (obeys_right ctors missing ρ 0 o.steps (steps.Bool true ∷ []) first).0 ∙ bit_truth true in
          let made_run : Made i r = record { steps = obeys_left ctors missing ρ i r.steps e.steps later } in
          let made_fails : Made (after i r) e = record { steps = obeys_right ctors missing ρ i r.steps e.steps later }
          in
          any_is ctors missing ρ r.fails (after i r) a.alive made_fails (fails_in (Some check) (run_with Own f args))
          (running_fails ctors missing ρ (Some check) (guessing functions (Some check)) Own Full are_guessing f i a.out
          a.alive made_run reached args are lasts)

-- ---- a run that fails the check

pub failed_is : (c : CheckId) (p : Part Outcome) → fails_in (Some c) p ≡ true → p ≡ Err (stop.Fails c)
failed_is c (Ok o) e = cc
failed_is c (Err (stop.Fails d)) e =
    let mk : ℕ → CheckId = λ n. record { 0 = n } in
    ap (λ z. Err (stop.Fails z)) (sym (ap mk (eqb-true c.0 d.0 e)))
failed_is c (Err (stop.Inner g d)) e = cc
failed_is c (Err stop.Deep) e = cc
failed_is c (Err stop.Stuck) e = cc

pub looked_is : (c : CheckId) (p : Part Outcome) → p ≡ Err (stop.Fails c) → fails_in (Some c) p ≡ true
looked_is c p e = ap (fails_in (Some c)) e ∙ eq-eqb c.0 c.0 refl
